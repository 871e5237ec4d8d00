-- Ranks: how many of a set's tasks go before a task.
use Rattle.std.specs.Prelude.{◌≡◌, ℕ, ◌<◌, Bool, Decides}
use Rattle.schedule.specs.Lists.{total, below, one_if}
use Rattle.tasks.specs.Orders.{as_asked}
use Rattle.tasks.specs.Sets.{count_of, key_of}
use Rattle.tasks.specs.declared.order.TaskKey.{TaskKey}
use Rattle.tasks.specs.declared.set.TaskSet.{TaskSet}

-- Whether the first of two tasks of a set goes before the second.
abbrev pub precedes : (TaskKey → TaskKey → Bool) → TaskSet → ℕ → ℕ → Bool
precedes before set a b = before (as_asked (key_of set a)) (as_asked (key_of set b))

-- The rank of a task: how many of the set's tasks go before it.
abbrev pub rank_in : (TaskKey → TaskKey → Bool) → TaskSet → ℕ → ℕ
rank_in before set task = total (λ j. one_if (precedes before set j task)) (below (count_of set))

-- Ranks tell the order of the set's tasks, no two tasks have one rank, and all ranks are below the count of tasks.
pub record Ranked (before : TaskKey → TaskKey → Bool) (set : TaskSet) : Type 0 where
  pub tells : (a b : ℕ) → a < count_of set → b < count_of set → Decides (precedes before set a b) (rank_in before set a < rank_in before set b)
  pub apart : (a b : ℕ) → a < count_of set → b < count_of set → rank_in before set a ≡ rank_in before set b → a ≡ b
  pub within : (a : ℕ) → a < count_of set → rank_in before set a < count_of set
