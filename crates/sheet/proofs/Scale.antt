-- A number that is read is within its limits.
use Rattle.std.proofs.Common.{◌≡◌, ℕ, ◌+◌, ◌*◌, ◌≤◌, true, leb, List, [], ◌∷◌, refl, inl, inr, arith}
use Rattle.std.proofs.lemmas.Bool.{cases_Bool, and_parts, leb-true}
use Rattle.sheet.specs.declared.fault.SheetFault.{SheetFault}
use Rattle.sheet.specs.declared.symbol.Limits.{Limits}
use Rattle.sheet.specs.declared.symbol.Stop.{Stop}
use Rattle.sheet.specs.declared.symbol.Symbol.{Symbol}
use Rattle.sheet.specs.declared.symbol.Symbol.TheVariants as Symbols
use Rattle.sheet.specs.Reading.{Read, got, bad, next, symbol_of, by_symbol, stops, stopped, within, weighed, number_on, number}

-- A reading that gives a value has no fault.
pub got_not_bad : {A : Type 0} {x : A} {at : ℕ} {xs : List ℕ} {e : SheetFault} → bad e ≡ got x at xs → ⊥
got_not_bad h = let z : ◌≡◌ {A = ℕ} 0 1 = cc in omega arith

-- A reading in two steps gives a value only where both do.
pub next_both : {A B : Type 0} (r : Read A) (f : A → ℕ → List ℕ → Read B) (y : B) (at : ℕ) (xs : List ℕ) → next r f ≡ got y at xs
    → (x : A) × (at' : ℕ) × (xs' : List ℕ) × (r ≡ got x at' xs') × (f x at' xs' ≡ got y at xs)
next_both (got x at' xs') f y at xs h = (x, at', xs', refl, h)
next_both (bad e) f y at xs h = absurd (got_not_bad h)

-- What a value is within.
pub within_parts : (l : Limits) (v : ℕ) → within l v ≡ true → (l.least ≤ v) × (v ≤ l.most)
within_parts l v e = let p = and_parts (leb l.least v) (leb v l.most) e in (leb-true _ _ p.0, leb-true _ _ p.1)

-- A number that is weighed and read is within its limits, and nothing else changed.
pub weighed_inv : (l : Limits) (first value at : ℕ) (xs : List ℕ) (v at' : ℕ) (xs' : List ℕ) → weighed l first value at xs ≡ got v at' xs'
    → (v ≡ value) × (at ≡ at') × (xs ≡ xs') × (l.least ≤ value) × (value ≤ l.most)
weighed_inv l first value at xs v at' xs' h =
    elim (cases_Bool (within l value)) [
      | inl e ↦ let k = rw e at h in let p = within_parts l value e in (cc, cc, cc, p.0, p.1)
      | inr e ↦ absurd (got_not_bad (rw e at h))
    ]

-- Where a number stops and is read, the symbol is the stop.
pub stopped_inv : (l : Limits) (s : Stop) (y : Symbol) (first value at : ℕ) (xs : List ℕ) (v at' : ℕ) (xs' : List ℕ) → stopped l s y first value at xs ≡ got v at' xs'
    → (stops s y ≡ true) × (v ≡ value) × (at ≡ at') × (xs ≡ xs') × (l.least ≤ value) × (value ≤ l.most)
stopped_inv l s y first value at xs v at' xs' h =
    elim (cases_Bool (stops s y)) [
      | inl e ↦ let k = weighed_inv l first value at xs v at' xs' (rw e at h) in (e, k.0, k.1, k.2, k.3, k.4)
      | inr e ↦ absurd (got_not_bad (rw e at h))
    ]

module _ (l : Limits) (s : Stop) (first : ℕ) (v at' : ℕ) (xs' : List ℕ) where
  ends : (b : ℕ) (bs : List ℕ) (value at : ℕ) (y : Symbol) → stopped l s y first value at (b ∷ bs) ≡ got v at' xs' → (l.least ≤ v) × (v ≤ l.most)
  ends b bs value at y h = let k = stopped_inv l s y first value at (b ∷ bs) v at' xs' h in (omega (arith, k.1, k.4, k.5), omega (arith, k.1, k.4, k.5))

  at_symbol : (b : ℕ) (bs : List ℕ) (digits value at : ℕ) (y : Symbol)
      → ((digits value at : ℕ) → number_on l s first digits value at bs ≡ got v at' xs' → (l.least ≤ v) × (v ≤ l.most))
      → by_symbol y (λ d. number_on l s first (digits + 1) (value * 10 + d) (at + 1) bs) (λ y. stopped l s y first value at (b ∷ bs)) ≡ got v at' xs'
      → (l.least ≤ v) × (v ≤ l.most)
  at_symbol b bs digits value at (Symbols.Digit d) ih h = ih (digits + 1) (value * 10 + d) (at + 1) h
  at_symbol b bs digits value at (Symbols.Stop s) ih h = ends b bs value at (Symbols.Stop s) h
  at_symbol b bs digits value at Symbols.Other ih h = ends b bs value at Symbols.Other h

  pub number_on_within : (xs : List ℕ) (digits value at : ℕ) → number_on l s first digits value at xs ≡ got v at' xs' → (l.least ≤ v) × (v ≤ l.most)
  number_on_within [] digits value at h = absurd (got_not_bad h)
  number_on_within (b ∷ bs) digits value at h = at_symbol b bs digits value at (symbol_of b digits value) (number_on_within bs) h

-- A number that is read is within its limits.
pub number_within : (l : Limits) (s : Stop) (at : ℕ) (xs : List ℕ) (v at' : ℕ) (xs' : List ℕ) → number l s at xs ≡ got v at' xs' → (l.least ≤ v) × (v ≤ l.most)
number_within l s at xs v at' xs' h = number_on_within l s at v at' xs' xs 0 0 at h
