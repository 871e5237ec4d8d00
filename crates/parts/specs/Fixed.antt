-- A list of a fixed capacity as a list.
use Rattle.std.specs.Prelude.{ℕ, List, take}
use Rattle.parts.specs.declared.fixed.FixedList.{FixedList}

-- The elements that are listed, in their order: the first `count` of the places.
abbrev pub elements : {T : Type 0} {N : ℕ} → FixedList T N → List T
elements l = take l.count l.items
