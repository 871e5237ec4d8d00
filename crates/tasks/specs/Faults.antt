-- Each fault of a task set by layer, number and place.
use Rattle.std.specs.Prelude.{ℕ}
use Rattle.sheet.specs.declared.fault.Layer.TheVariants as Layers
use Rattle.sheet.specs.declared.fault.Refusal.{Refusal}
use Rattle.sheet.specs.Faults as Sheets
use Rattle.tasks.specs.declared.fault.SetFault.{SetFault}
use Rattle.tasks.specs.declared.fault.SetFault.TheVariants.{Sheet, OffScale, Falling, Overfull}

-- A refusal of layer G, the task set.
abbrev pub by_set : ℕ → ℕ → Refusal
by_set number place = record { layer = Layers.Set; number = number; place = place }

abbrev pub shown : SetFault → Refusal
shown (Sheet s) = Sheets.shown s
shown (OffScale task) = by_set 3 task
shown (Falling task) = by_set 4 task
shown (Overfull task) = by_set 5 task
