use Rattle.std.proofs.Common.{◌≡◌, ℕ, ◌<◌, length, get_or}
use Rattle.machine.specs.Placing.{unlinked_at, unplaced}
use Rattle.machine.proofs.Tables.{Spans}
use Rattle.machine.proofs.layout.tables.placed_of.Given as goal

-- The spans of the tasks so far, and the parts placed so far.
abbrev pub invariant-loop-k : goal.invariant-loop-k
invariant-loop-k l =
    (length l.spans ≡ 32) × (length l.placed ≡ 64)
    × Spans l.parts l.k l.spans
    × ((j : ℕ) → j < l.k → get_or l.placed j unplaced ≡ unlinked_at l.parts j)
