-- A front list as a list, its front first.
use Rattle.std.specs.Prelude.{◌≡◌, ℕ, List, [], ◌∷◌, reverse, length, take, Some, None, Option}
use Rattle.front.specs.declared.lists.FrontList.{FrontList}

-- The elements from the front on: they are stored the other way round.
abbrev pub listed : {T : Type 0} → FrontList T → List T
listed l = reverse (take l.count l.items.now)

-- How many elements the list can hold.
abbrev pub room : {T : Type 0} → FrontList T → ℕ
room l = length l.items.now

-- What comes of taking the front of a list: its first element and the others, or none where there is none.
abbrev pub Taken : {T : Type 0} → List T → Option T → List T → Type 0
Taken old None new = (old ≡ []) × (new ≡ [])
Taken old (Some x) new = old ≡ x ∷ new
