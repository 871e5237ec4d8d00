-- Regulators in a list, changed one after the other.
use Rattle.std.proofs.Common.{◌≡◌, ℕ, zero, suc, ◌+◌, ◌<◌, ◌≤◌, List, [], ◌∷◌, length, get_or, set, refl, subst, inl, inr, ap, arith, add-one}
use denote.Param.Members.{Mut, Called}
use Rattle.std.specs.Array.{IsFromFnResult, IsFromFnResultFrom}
use Rattle.std.proofs.lemmas.Bool.{cases_eq}
use Rattle.rules.specs.Regulators.{SameCurve, Refilled, Ticked, of_task}

-- What a fill and a tick do to a curve and to what is left of it.
abbrev pub Filling : (ℕ → ℕ) → (ℕ → ℕ) → (ℕ → ℕ) → (ℕ → ℕ) → Type 0
Filling curve left new_curve new_left = SameCurve curve new_curve × Refilled curve new_left

abbrev pub Ticking : (ℕ → ℕ) → (ℕ → ℕ) → (ℕ → ℕ) → (ℕ → ℕ) → Type 0
Ticking curve left new_curve new_left = SameCurve curve new_curve × Ticked curve left new_left

module _ {G : Type 0} (curve left : G → ℕ → ℕ) (Change : (ℕ → ℕ) → (ℕ → ℕ) → (ℕ → ℕ) → (ℕ → ℕ) → Type 0) where
  -- The first n have changed, and those after them have not.
  abbrev pub SoFar : ℕ → List G → List G → Type 0
  SoFar zero old new = new ≡ old
  SoFar (suc n) [] new = new ≡ []
  SoFar (suc n) (x ∷ old) [] = ⊥
  SoFar (suc n) (x ∷ old) (y ∷ new) = Change (curve x) (left x) (curve y) (left y) × SoFar n old new

  pub so_far_more : (n : ℕ) (old new : List G) (d y : G) → n < length new → SoFar n old new →
      Change (curve (get_or new n d)) (left (get_or new n d)) (curve y) (left y) → SoFar (n + 1) old (set new n y)
  so_far_more n old new d y h s b = rw add-one (step n old new h s b)
    where
      step : (n : ℕ) (old new : List G) → n < length new → SoFar n old new →
          Change (curve (get_or new n d)) (left (get_or new n d)) (curve y) (left y) → SoFar (suc n) old (set new n y)
      step zero old [] h s b = absurd (omega arith)
      step zero old (z ∷ new) h s b = subst (λ (o : List G). SoFar 1 o (y ∷ new)) s (b, refl)
      step (suc n) [] new h s b = absurd (omega (arith, ap length s))
      step (suc n) (w ∷ old) [] h s b = absurd (omega arith)
      step (suc n) (w ∷ old) (z ∷ new) h s b = (s.0, step n old new (omega arith) s.1 b)

  -- Where all have changed, so has what is told of each task.
  pub all_changed : (n : ℕ) (old new : List G) → length old ≤ n → SoFar n old new → (i : ℕ) → i < length old →
      Change (of_task curve old i) (of_task left old i) (of_task curve new i) (of_task left new i)
  all_changed n [] new l s i h = absurd (omega arith)
  all_changed zero (x ∷ old) new l s i h = absurd (omega arith)
  all_changed (suc n) (x ∷ old) [] l s i h = absurd s
  all_changed (suc n) (x ∷ old) (y ∷ new) l s zero h = s.0
  all_changed (suc n) (x ∷ old) (y ∷ new) l s (suc i) h = all_changed n old new (omega arith) s.1 i (omega arith)

-- What every call answers holds of each task's regulator in an array that calls made, where no call changes the closure.
module _ {F G : Type 0} {g : Mut F (ℕ × Unit {0}) G} {f : F} {gs : List G} {n : ℕ} (curve left : G → ℕ → ℕ)
    (P : ℕ → (ℕ → ℕ) → (ℕ → ℕ) → Type 0) where
  pub of_calls_made : ((i : ℕ) (q : F) (r : G) → i < n → Called g f (i, tt) r q → (q ≡ f) × P i (curve r) (left r)) → IsFromFnResult g f gs n →
      (i : ℕ) → i < n → P i (of_task curve gs i) (of_task left gs i)
  of_calls_made says made i h =
      place gs i (omega (arith, made.long)) (λ d. from 0 n (omega arith) made.each i (omega arith) (omega arith) d)
    where
      from : (k m : ℕ) → k + m ≤ n → IsFromFnResultFrom g f gs k m → (i : ℕ) → k ≤ i → i < k + m →
          (d : G) → P i (curve (get_or gs i d)) (left (get_or gs i d))
      from k zero l calls i low high d = absurd (omega arith)
      from k (suc m) l (q, r, at, called, rest) i low high d =
          let said = says k q r (omega arith) called in
          elim (cases_eq i k) [
            | inl same ↦ rw (same, at.1 d) said.1
            | inr ne ↦
                let rest = subst (λ (h : F). IsFromFnResultFrom g h gs (k + 1) m) said.0 rest in
                from (k + 1) m (omega arith) rest i (omega arith) (omega arith) d
          ]

      place : (hs : List G) (j : ℕ) → j < length hs → ((d : G) → P i (curve (get_or hs j d)) (left (get_or hs j d))) →
          P i (of_task curve hs j) (of_task left hs j)
      place [] j h p = absurd (omega arith)
      place (r ∷ hs) zero h p = p r
      place (r ∷ hs) (suc j) h p = place hs j (omega arith) p
