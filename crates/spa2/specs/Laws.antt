-- What holds of every plan that the planner proposes.
use Rattle.std.specs.Prelude.{◌≡◌, ℕ, ◌+◌, ◌<◌, ◌≤◌, Bool, true, false, cond, not, ◌&&◌, List, ◌∷◌, ◌++◌, length, None, ◌==◌}
use Rattle.std.specs.List.{list_any}
use Rattle.schedule.specs.declared.Part.{Part}
use Rattle.schedule.specs.Lists.{total}
use Rattle.tasks.specs.declared.order.TaskKey.{TaskKey}
use Rattle.tasks.specs.declared.set.TaskSet.{TaskSet}
use Rattle.tasks.specs.Sets.{count_of, period_of}
use Rattle.plan.specs.Checks.{number_fault, earlier_fault}
use Rattle.spa2.specs.Loads.{load_of}
use Rattle.spa2.specs.Placing.{Tasks, tasks_of, threshold, started, visited_from, goes_beforehand}
use Rattle.spa2.specs.Windows.{has_part}

-- Task i is placed beforehand on m processors.
abbrev pub is_beforehand : Tasks → ℕ → ℕ → Bool
is_beforehand t m i = goes_beforehand t (visited_from t (started m) 0 i) i

-- Some part of the list is on processor p.
abbrev pub has_on : ℕ → List Part → Bool
has_on p qs = list_any (λ q. q.processor == p) qs

-- What a part adds to the load of processor p, unless its task was placed beforehand.
abbrev pub load_share : Tasks → (ℕ → Bool) → ℕ → Part → ℕ
load_share t first p q = cond (q.processor == p && not (first q.task)) (load_of q.cost (t.period q.task)) 0

-- The loads of the parts on processor p, without those of a task placed beforehand.
abbrev pub load_on : Tasks → (ℕ → Bool) → ℕ → List Part → ℕ
load_on t first p qs = total (load_share t first p) qs

-- The laws of a proposed plan of a set on m processors.
pub record Lawful (set : TaskSet) (m : ℕ) (before : TaskKey → TaskKey → Bool) (curve : ℕ → ℕ → ℕ) (ps : List Part) : Type 0 where
  -- every number is on its scale, each part names a task and a processor that there are, no task has two parts on one processor,
  -- and the costs of a task's parts add up to its cost
  pub numbers : number_fault set m ps ≡ None
  -- where the rule admits one release of a task in its period, no task is released again before its last window has ended
  pub alone : ((i : ℕ) → i < count_of set → curve i (period_of set i) ≤ 1) → earlier_fault set m ps before curve ≡ None
  -- there are at most m parts more than tasks
  pub few : length ps ≤ count_of set + m
  -- a part that another of its task follows was the last part placed on its processor
  pub closing : (xs : List Part) (p : Part) (ys : List Part) → ps ≡ xs ++ (p ∷ ys) → has_part p.task ys ≡ true → has_on p.processor ys ≡ false
  -- no processor is loaded beyond the threshold, but for a task placed beforehand
  pub filled : (p : ℕ) → load_on (tasks_of set) (is_beforehand (tasks_of set) m) p ps ≤ threshold (tasks_of set)
