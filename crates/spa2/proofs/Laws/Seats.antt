-- The standings of processors, and the reserve.
use Rattle.std.proofs.Common.{◌≡◌, ℕ, suc, ◌<◌, List, [], ◌∷◌, length, get_or, set, sym, ap, ◌∙◌, subst, inl, inr, arith, length-set, get_or-set_other, get_or-set_same}
use Rattle.std.proofs.lemmas.Bool.{cases_eq}
use Rattle.spa2.specs.declared.state.Processor.{Processor}
use Rattle.spa2.specs.declared.state.Standing.{Standing}
use Rattle.spa2.specs.declared.state.Standing.TheVariants.{Open, Reserved, Full}
use Rattle.spa2.proofs.Scans.{idle}

abbrev pub standing_at : List Processor → ℕ → Standing
standing_at xs p = (get_or xs p idle).standing

pub standing_same : (xs : List Processor) (p : ℕ) (y : Processor) → p < length xs → standing_at (set xs p y) p ≡ y.standing
standing_same xs p y h = ap (λ (x : Processor). x.standing) (get_or-set_same xs p y idle h)

pub standing_other : (xs : List Processor) (p q : ℕ) (y : Processor) → (q ≡ p → ⊥) → standing_at (set xs p y) q ≡ standing_at xs q
standing_other xs p q y h = ap (λ (x : Processor). x.standing) (get_or-set_other xs p q y idle h)

-- p is not in the list.
abbrev pub Absent : ℕ → List ℕ → Type 0
Absent p [] = Unit {0}
Absent p (q ∷ qs) = (p ≡ q → ⊥) × Absent p qs

-- Each number of the list is a processor that is in reserve, and no number stands there twice.
abbrev pub Seated : List Processor → List ℕ → Type 0
Seated xs [] = Unit {0}
Seated xs (p ∷ ps) = (p < length xs) × (standing_at xs p ≡ Reserved) × Absent p ps × Seated xs ps

-- Another processor changes.
pub seated_other : (xs : List Processor) (q : ℕ) (y : Processor) (ps : List ℕ) → Absent q ps → Seated xs ps → Seated (set xs q y) ps
seated_other xs q y [] a h = tt
seated_other xs q y (p ∷ ps) a h = (
  omega (arith, h.0, length-set xs q y),
  standing_other xs q p y (λ e. a.0 (sym e)) ∙ h.1,
  h.2,
  seated_other xs q y ps a.1 h.3,
)

-- A processor changes, and not its standing.
pub seated_same : (xs : List Processor) (q : ℕ) (y : Processor) (ps : List ℕ) → q < length xs → y.standing ≡ standing_at xs q → Seated xs ps → Seated (set xs q y) ps
seated_same xs q y [] l e h = tt
seated_same xs q y (p ∷ ps) l e h = (
  omega (arith, h.0, length-set xs q y),
  elim (cases_eq p q) [
    | inl same ↦ subst (λ (k : ℕ). standing_at (set xs q y) k ≡ Reserved) (sym same) (standing_same xs q y l ∙ (e ∙ (sym (ap (λ (k : ℕ). standing_at xs k) same) ∙ h.1)))
    | inr other ↦ standing_other xs q p y other ∙ h.1
  ],
  h.2,
  seated_same xs q y ps l e h.3,
)

open_reserved : Open ≡ Reserved → ⊥
open_reserved e = let z : ◌≡◌ {A = ℕ} 0 1 = cc in omega arith

pub open_full : Open ≡ Full → ⊥
open_full e = let z : ◌≡◌ {A = ℕ} 0 1 = cc in omega arith

pub reserved_full : Reserved ≡ Full → ⊥
reserved_full e = let z : ◌≡◌ {A = ℕ} 0 1 = cc in omega arith

-- An open processor is not in reserve.
pub open_absent : (xs : List Processor) (q : ℕ) (ps : List ℕ) → standing_at xs q ≡ Open → Seated xs ps → Absent q ps
open_absent xs q [] o h = tt
open_absent xs q (p ∷ ps) o h = ((λ e. open_reserved (sym o ∙ (ap (λ (k : ℕ). standing_at xs k) e ∙ h.1))), open_absent xs q ps o h.3)

-- A number above all of the list is not in it.
pub above_absent : (q : ℕ) (ps : List ℕ) → ((k : ℕ) → k < length ps → get_or ps k 0 < q) → Absent q ps
above_absent q [] h = tt
above_absent q (p ∷ ps) h = ((λ e. omega (arith, h 0 (omega arith))), above_absent q ps (λ k l. h (suc k) (omega arith)))
