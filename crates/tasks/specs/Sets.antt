-- A task set as numbers, and which numbers make one.
use Rattle.std.specs.Prelude.{◌≡◌, ℕ, ◌-◌, ◌<◌, Bool, not, ◌&&◌, ◌||◌, List, length, Some, None, Ok, Err, Option, Result, ◌==◌, nat_le, nat_lt, slice_get, slice_index, take, unwrap_or}
use Rattle.std.specs.Option.{option_or, option_map}
use Rattle.std.specs.Bool.{then_some}
use Rattle.tasks.specs.Searches.{first_where}
use Rattle.tasks.specs.declared.fault.SetFault.{SetFault}
use Rattle.tasks.specs.declared.fault.SetFault.TheVariants.{OffScale, Falling, Overfull}
use Rattle.tasks.specs.declared.order.TaskKey.{TaskKey}
use Rattle.tasks.specs.declared.set.Task.{Task}
use Rattle.tasks.specs.declared.set.TaskSet.{TaskSet}

-- How many tasks the set has.
abbrev pub count_of : TaskSet → ℕ
count_of s = s.count

-- The tasks of the set.
abbrev pub task_list : TaskSet → List Task
task_list s = take s.count s.tasks

-- The period of a task; 1 past the set's tasks.
abbrev pub period_of : TaskSet → ℕ → ℕ
period_of s i = unwrap_or (option_map (λ t. t.period) (slice_get (task_list s) i)) 1

-- The cost of a task; 0 past the set's tasks.
abbrev pub cost_of : TaskSet → ℕ → ℕ
cost_of s i = unwrap_or (option_map (λ t. t.cost) (slice_get (task_list s) i)) 0

-- A task of the set as a priority order is told it.
abbrev pub key_of : TaskSet → ℕ → TaskKey
key_of s i = record { number = i; period = period_of s i }

-- A period or a cost within its limits.
abbrev pub on_scale : ℕ → Bool
on_scale ticks = nat_le 1 ticks && nat_le ticks 100000

-- The count of tasks is outside 1 to 32, or there are not as many costs as periods.
abbrev pub miscounted : List ℕ → List ℕ → Bool
miscounted periods costs = length periods == 0 || (nat_lt 32 (length periods) || not (length costs == length periods))

-- The period or the cost of a task is outside its limits.
abbrev pub off_scale : List ℕ → List ℕ → ℕ → Bool
off_scale periods costs i = not (on_scale (slice_index periods i)) || not (on_scale (slice_index costs i))

-- The period of a task is below the one before it.
abbrev pub falls : List ℕ → ℕ → Bool
falls periods i = nat_lt 0 i && nat_lt (slice_index periods i) (slice_index periods (i - 1))

-- The cost of a task is above its period.
abbrev pub overfull : List ℕ → List ℕ → ℕ → Bool
overfull periods costs i = nat_lt (slice_index periods i) (slice_index costs i)

-- What is wrong with periods and costs: the first of these that something is wrong with, at its first task.
abbrev pub set_fault : List ℕ → List ℕ → Option SetFault
set_fault periods costs =
    option_or (then_some (miscounted periods costs) (OffScale 0))
    (option_or (option_map OffScale (first_where (off_scale periods costs) (length periods)))
    (option_or (option_map Falling (first_where (falls periods) (length periods)))
    (option_map Overfull (first_where (overfull periods costs) (length periods)))))

-- A set of n tasks with these periods and costs.
abbrev pub Holds : ℕ → (ℕ → ℕ) → (ℕ → ℕ) → TaskSet → Type 0
Holds n period cost s = (count_of s ≡ n) × ((i : ℕ) → i < n → (period_of s i ≡ period i) × (cost_of s i ≡ cost i))

-- What the making of a set answers: the set of these periods and costs where nothing is wrong with them, else the fault.
abbrev pub Made : List ℕ → List ℕ → Result TaskSet SetFault → Type 0
Made periods costs (Ok s) = (set_fault periods costs ≡ None) × Holds (length periods) (λ i. slice_index periods i) (λ i. slice_index costs i) s
Made periods costs (Err f) = set_fault periods costs ≡ Some f
