-- What a regulator's calls do to its curve and to what is left of it, over bare numbers, and the regulators of all tasks.
use Rattle.std.specs.Prelude.{◌≡◌, ℕ, zero, suc, ◌+◌, ◌-◌, ◌<◌, ◌≤◌, min, Bool, cond, List, [], ◌∷◌, length, slice_get}
use Rattle.std.proofs.Common.{arith}
use Rattle.std.specs.Option.{option_map_or}

-- The curve has not changed.
abbrev pub SameCurve : (ℕ → ℕ) → (ℕ → ℕ) → Type 0
SameCurve old new = (L : ℕ) → new L ≡ old L

-- What is left is the whole curve.
abbrev pub Refilled : (ℕ → ℕ) → (ℕ → ℕ) → Type 0
Refilled curve new = (L : ℕ) → 1 ≤ L → new L ≡ curve L

-- Where a release was admitted, what is left has fallen by 1 at every length; else it has not changed.
abbrev pub Taken : Bool → (ℕ → ℕ) → (ℕ → ℕ) → Type 0
Taken admitted old new = (L : ℕ) → 1 ≤ L → new L ≡ cond admitted (old L - 1) (old L)

-- A tick has passed.
abbrev pub Ticked : (ℕ → ℕ) → (ℕ → ℕ) → (ℕ → ℕ) → Type 0
Ticked curve old new = (L : ℕ) → 1 ≤ L → new L ≡ min (old (L + 1)) (curve L)

-- The curve of a task, or what is left of it, from that of its regulator.
abbrev pub of_task : {G : Type 0} → (G → ℕ → ℕ) → List G → ℕ → ℕ → ℕ
of_task {G} curve gs i L = option_map_or (λ (g : G). curve g L) (slice_get gs i) 0

-- What holds of every regulator's numbers holds of those of each task.
pub of_each_task : {G : Type 0} (curve left : G → ℕ → ℕ) (P : (ℕ → ℕ) → (ℕ → ℕ) → Type 0) → ((g : G) → P (curve g) (left g)) →
    (gs : List G) → length gs ≡ 32 → (i : ℕ) → i < 32 → P (of_task curve gs i) (of_task left gs i)
of_each_task {G} curve left P every gs wide i h = at gs i (omega arith)
  where
    at : (gs : List G) (i : ℕ) → i < length gs → P (of_task curve gs i) (of_task left gs i)
    at [] i h = absurd (omega arith)
    at (g ∷ gs) zero h = every g
    at (g ∷ gs) (suc i) h = at gs i (omega arith)
