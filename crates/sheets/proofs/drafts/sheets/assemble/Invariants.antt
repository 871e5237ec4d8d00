use Rattle.std.proofs.Common.{◌≡◌, ℕ, ◌<◌, length, get_or}
use Rattle.parts.specs.Parts.{parts_of}
use Rattle.sheets.specs.Grammar.{part_of, none}
use Rattle.sheets.specs.Texts.{no_part}
use Rattle.sheets.proofs.drafts.sheets.assemble.Given as goal

-- The parts so far are made of as many places and amounts.
abbrev pub invariant-loop-place : goal.invariant-loop-place
invariant-loop-place l =
    (length (parts_of l.list) ≡ length l.yielded)
    × ((k : ℕ) → k < length l.yielded → get_or (parts_of l.list) k no_part ≡ part_of (get_or l.places k none) (get_or l.amounts k none))
