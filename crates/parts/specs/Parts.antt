-- The parts of a plan as a list.
use Rattle.std.specs.Prelude.{◌≡◌, ℕ, zero, suc, Bool, ◌||◌, List, [], ◌∷◌, length, Ok, Err, Result, ◌==◌, nat_lt}
use Rattle.schedule.specs.declared.Part.{Part}
use Rattle.parts.specs.declared.fault.PlanFault.{PlanFault}
use Rattle.parts.specs.declared.fault.PlanFault.TheVariants.{OffScale}
use Rattle.parts.specs.Fixed.{elements}
use Rattle.parts.specs.declared.fixed.FixedList.{FixedList}
use Rattle.parts.specs.declared.lists.Proposal.{Proposal}

-- A list of up to 64 parts.
abbrev pub PartList : Type 0
PartList = FixedList Part 64

-- The parts that a list holds, in their order.
abbrev pub parts_of : PartList → List Part
parts_of l = elements l

-- The parts of a proposal, in their order.
abbrev pub plan_of : Proposal → List Part
plan_of p = parts_of p.list

-- The list with another window for the part at k; the same list where there is no such part.
abbrev pub with_window : List Part → ℕ → ℕ → List Part
with_window [] k w = []
with_window (p ∷ ps) zero w = record { task = p.task; processor = p.processor; cost = p.cost; window = w } ∷ ps
with_window (p ∷ ps) (suc k) w = p ∷ with_window ps k w

-- What comes of proposing a list of parts: a plan of them, or where they are none or more than 64, a count off its limits.
abbrev pub Proposed : List Part → Result Proposal PlanFault → Type 0
Proposed ps (Ok p) = plan_of p ≡ ps
Proposed ps (Err e) = (length ps == 0 || nat_lt 64 (length ps) ≡ Bool.true) × (e ≡ OffScale 0)
