use Rattle.std.proofs.Common.{◌≡◌, ℕ, ◌<◌, ◌≤◌, length, get_or, take}
use Rattle.std.specs.Iterator.Adapters.{enumerate_count, enumerate_source, rev_source}
use Rattle.std.specs.Slice.Iter.{iter_rest}
use Rattle.machine.specs.Placing.{placed_at, unlinked_at, unplaced}
use Rattle.machine.proofs.Tables.{Firsts}
use Rattle.machine.proofs.layout.tables.link_parts.Given as goal

-- The first k parts are to come. Of the others the first of each task is known, and they are linked.
abbrev pub invariant-loop-k : goal.invariant-loop-k
invariant-loop-k l =
    let rest = iter_rest (enumerate_source (rev_source l.k-iterator)) in
    let k = length rest in
    (enumerate_count (rev_source l.k-iterator) ≡ 0) × (rest ≡ take k l.parts)
    × (length l.placed ≡ 64) × (length l.first ≡ 32)
    × Firsts l.parts k l.first
    × ((j : ℕ) → k ≤ j → j < length l.parts → get_or l.placed j unplaced ≡ placed_at l.parts j)
    × ((j : ℕ) → j < k → get_or l.placed j unplaced ≡ unlinked_at l.parts j)
