use Rattle.std.proofs.Common.{◌≡◌, ℕ, ◌<◌, length, get_or}
use Rattle.tasks.specs.Ranks.{rank_in}
use Rattle.machine.proofs.layout.ranks.ranks_of.Given as goal

-- The ranks so far, and the tasks of these ranks.
abbrev pub invariant-loop-task : goal.invariant-loop-task
invariant-loop-task g l =
    (length l.ranks ≡ 32) × (length l.by_rank ≡ 32)
    × ((i : ℕ) → i < l.task → get_or l.ranks i 0 ≡ rank_in (g.O.PriorityOrder.before l.order) l.set i)
    × ((i : ℕ) → i < l.task → get_or l.by_rank (rank_in (g.O.PriorityOrder.before l.order) l.set i) 0 ≡ i)
