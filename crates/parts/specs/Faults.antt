-- Each fault of a plan by layer, number and place.
use Rattle.std.specs.Prelude.{ℕ}
use Rattle.sheet.specs.declared.fault.Layer.TheVariants as Layers
use Rattle.sheet.specs.declared.fault.Refusal.{Refusal}
use Rattle.tasks.specs.Faults as Sets
use Rattle.parts.specs.declared.fault.PlanFault.{PlanFault}
use Rattle.parts.specs.declared.fault.PlanFault.TheVariants.{Set, OffScale, Stranger, Twin, Miscount, Overlap, Late, Unplaced, Squeezed, Cramped}

-- A refusal of layer K, the plan.
abbrev pub by_plan : ℕ → ℕ → Refusal
by_plan number place = record { layer = Layers.Plan; number = number; place = place }

abbrev pub shown : PlanFault → Refusal
shown (Set s) = Sets.shown s
shown (OffScale part) = by_plan 3 part
shown (Stranger part) = by_plan 6 part
shown (Twin part) = by_plan 7 part
shown (Miscount task) = by_plan 8 task
shown (Overlap task) = by_plan 9 task
shown (Late part) = by_plan 10 part
shown (Unplaced task) = by_plan 11 task
shown (Squeezed part) = by_plan 12 part
shown (Cramped needed) = by_plan 17 needed
