-- Each fault of a machine by layer, number and place.
use Rattle.std.specs.Prelude.{ℕ}
use Rattle.sheet.specs.declared.fault.Layer.TheVariants as Layers
use Rattle.sheet.specs.declared.fault.Refusal.{Refusal}
use Rattle.parts.specs.Faults as Plans
use Rattle.machine.specs.declared.fault.MachineFault.{MachineFault}
use Rattle.machine.specs.declared.fault.MachineFault.TheVariants.{Plan, Unknown, TooSoon, NoJob, WornOut, Cramped}

-- A refusal of layer M, the machine.
abbrev pub by_machine : ℕ → ℕ → Refusal
by_machine number place = record { layer = Layers.Machine; number = number; place = place }

abbrev pub shown : MachineFault → Refusal
shown (Plan p) = Plans.shown p
shown (Unknown number) = by_machine 13 number
shown (TooSoon task) = by_machine 14 task
shown (NoJob task) = by_machine 15 task
shown WornOut = by_machine 16 0
shown (Cramped needed) = by_machine 17 needed
