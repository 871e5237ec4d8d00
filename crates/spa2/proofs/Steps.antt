-- Facts on the numbers of a task set, and on one more step of a recursion over its tasks.
use Rattle.std.proofs.Common.{◌≡◌, ℕ, zero, suc, ◌+◌, ◌-◌, ◌<◌, ◌≤◌, map, ap, ◌∙◌, inl, inr, arith}
use Rattle.std.specs.List.{fold, sum, range_with_len}
use Rattle.std.proofs.lemmas.Bool.{cases_lt}
use Rattle.tasks.specs.declared.set.TaskSet.{TaskSet}
use Rattle.tasks.specs.Sets.{period_of, cost_of}
use Rattle.tasks.proofs.Sets.{period_scaled, cost_scaled, past_cost}
use Rattle.spa2.specs.Placing.{Tasks, State, tasks_of, load_at, loads_from, visited, visited_from}
use Rattle.spa2.proofs.Rounding.{load_at_most}

-- No task costs more than its period; past the set's tasks there is nothing to do.
cost_within : (s : TaskSet) (i : ℕ) → cost_of s i ≤ period_of s i
cost_within s i =
    elim (cases_lt i s.count) [
      | inl h ↦ (cost_scaled s i h).1
      | inr h ↦ rw (past_cost s i h) (omega arith)
    ]

pub load_at_whole : (s : TaskSet) (i : ℕ) → load_at (tasks_of s) i ≤ 1000000
load_at_whole s i = load_at_most (cost_of s i) (period_of s i) 1000000 (period_scaled s i).0 (omega (arith, cost_within s i))

-- The loads of the tasks from i on, summed up.
loads_fold : (t : Tasks) (i n a : ℕ) → fold (λ (b x : ℕ). b + x) a (map (load_at t) (range_with_len i n)) ≡ a + loads_from t i n
loads_fold t i zero a = omega arith
loads_fold t i (suc n) a = loads_fold t (i + 1) n (a + load_at t i) ∙ omega arith

pub loads_sum : (t : Tasks) (i n : ℕ) → sum (map (load_at t) (range_with_len i n)) ≡ loads_from t i n
loads_sum t i n = loads_fold t i n 0 ∙ omega arith

pub visits_more : (t : Tasks) (s : State) (i : ℕ) → i < t.count →
    visited_from t s i (t.count - i) ≡ visited_from t (visited t s i) (i + 1) (t.count - (i + 1))
visits_more t s i h = let e : t.count - i ≡ suc (t.count - (i + 1)) = omega arith in ap (λ (n : ℕ). visited_from t s i n) e

pub visits_none : (t : Tasks) (s : State) (i : ℕ) → t.count ≤ i → visited_from t s i (t.count - i) ≡ s
visits_none t s i h = let e : t.count - i ≡ 0 = omega arith in ap (λ (n : ℕ). visited_from t s i n) e
