-- The numbers in reserve, once the front one is taken.
use Rattle.std.proofs.Common.{◌≡◌, ℕ, suc, ◌<◌, List, ◌∷◌, length, get_or, Some, None, Option, ap, subst, arith}
use Rattle.front.specs.Fronts.{Taken}

-- Each number of the list is below m.
abbrev pub Known : ℕ → List ℕ → Type 0
Known m ps = (k : ℕ) → k < length ps → get_or ps k 0 < m

pub taken_known : (m : ℕ) (old new : List ℕ) (r : Option ℕ) → Taken old r new → Known m old → Known m new
taken_known m old new None e h k l = absurd (let none = ap (λ (ps : List ℕ). length ps) e.1 in omega arith)
taken_known m old new (Some p) e h k l = subst (λ (ps : List ℕ). Known m ps) e h (suc k) (omega arith)

pub front_known : (m : ℕ) (old new : List ℕ) (p : ℕ) → old ≡ p ∷ new → Known m old → p < m
front_known m old new p e h = subst (λ (ps : List ℕ). Known m ps) e h 0 (omega arith)
