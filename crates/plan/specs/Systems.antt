-- A task set, a plan, a priority order and an arrival rule as one system of the tick rule.
use Rattle.std.specs.Prelude.{ℕ, Bool, List}
use Rattle.schedule.specs.declared.Part.{Part}
use Rattle.schedule.specs.Layout.{System}
use Rattle.tasks.specs.Numbers.{as_numbered}
use Rattle.tasks.specs.Orders.{as_asked}
use Rattle.tasks.specs.Sets.{count_of, cost_of, key_of}
use Rattle.tasks.specs.declared.order.TaskKey.{TaskKey}
use Rattle.tasks.specs.declared.set.TaskSet.{TaskSet}

-- The tasks of the set on m processors under the order's relation, told the set's periods, and the rule's curves. A task number
-- above 31, which no plan that passes the checks has, is read as 31.
abbrev pub system : TaskSet → ℕ → List Part → (TaskKey → TaskKey → Bool) → (ℕ → ℕ → ℕ) → System
system set m parts before curve = record {
  tasks = count_of set;
  procs = m;
  costs = cost_of set;
  parts = parts;
  before = λ a b. before (as_asked (key_of set a)) (as_asked (key_of set b));
  curve = λ i. curve (as_numbered i);
}
