-- Each fault of a sheet's bytes by layer, number and place, and how a refusal is written.
use Rattle.std.specs.Prelude.{ℕ, List, ◌++◌, codes, decimal}
use Rattle.std.proofs.Math.Utf8.{encode}
use Rattle.sheet.specs.declared.fault.Layer.{Layer}
use Rattle.sheet.specs.declared.fault.Layer.TheVariants as Layers
use Rattle.sheet.specs.declared.fault.Refusal.{Refusal}
use Rattle.sheet.specs.declared.fault.SheetFault.{SheetFault}
use Rattle.sheet.specs.declared.fault.SheetFault.TheVariants.{Overlong, Misspelt, OffScale}

-- The letter by which a layer is written.
abbrev pub letter : Layer → List ℕ
letter Layers.Sheet = codes "S"
letter Layers.Set = codes "G"
letter Layers.Plan = codes "K"
letter Layers.Machine = codes "M"
letter (Layers.Other c) = encode c

-- A refusal of a sheet's bytes.
abbrev pub by_sheet : ℕ → ℕ → Refusal
by_sheet number place = record { layer = Layers.Sheet; number = number; place = place }

abbrev pub shown : SheetFault → Refusal
shown Overlong = by_sheet 1 4096
shown (Misspelt at) = by_sheet 2 at
shown (OffScale at) = by_sheet 3 at

-- The line of a refusal: F, the letter of the layer, the number and the place, with a space before each.
abbrev pub fault_line : Refusal → List ℕ
fault_line r = codes "F " ++ (letter r.layer ++ (codes " " ++ (decimal r.number ++ (codes " " ++ decimal r.place))))
