-- The definition computes: three tasks on two processors, by rate-monotonic order and spaced arrivals.
use Rattle.std.proofs.Common.{◌≡◌, ℕ, ◌+◌, ◌-◌, ◌/◌, Bool, ◌&&◌, ◌||◌, eqb, ltb, [], ◌∷◌, get_or, Ok, refl}
use Rattle.schedule.specs.declared.Part.{Part}
use Rattle.spa2.specs.Placing.{Tasks}
use Rattle.spa2.specs.Plans.{spa2}

abbrev three : Tasks
three = record {
  count = 3;
  period = λ i. get_or (100 ∷ 120 ∷ 150 ∷ []) i 1;
  cost = λ i. get_or (60 ∷ 60 ∷ 60 ∷ []) i 0;
}

-- The smaller period goes first, of equal ones the smaller number.
abbrev earlier : ℕ → ℕ → Bool
earlier a b = ltb (three.period a) (three.period b) || (eqb (three.period a) (three.period b) && ltb a b)

-- At most one release in every period.
abbrev spaced : ℕ → ℕ → ℕ
spaced i L = (L + (three.period i - 1)) / three.period i

abbrev part : ℕ → ℕ → ℕ → ℕ → Part
part i p c w = record { task = i; processor = p; cost = c; window = w }

pub three_on_two : spa2 three 2 earlier spaced ≡ Ok (part 1 0 60 120 ∷ part 2 1 60 150 ∷ part 0 1 37 37 ∷ part 0 0 23 63 ∷ [])
three_on_two = refl
