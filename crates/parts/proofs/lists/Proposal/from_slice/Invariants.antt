use Rattle.std.proofs.Common.{◌≡◌, take}
use Rattle.parts.specs.Parts.{parts_of}
use Rattle.parts.proofs.lists.Proposal.from_slice.Given as goal

abbrev pub invariant-loop-part : goal.invariant-loop-part
invariant-loop-part l = parts_of l.list ≡ take l.part-index l.parts
