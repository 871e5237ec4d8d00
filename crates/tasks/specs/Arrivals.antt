-- What an arrival rule's calls do to its curves and to what is left of them. All speak of task numbers below 32 and, of
-- what is left, of lengths from 1.
use Rattle.std.specs.Prelude.{◌≡◌, ℕ, ◌+◌, ◌-◌, ◌<◌, ◌≤◌, min, Bool, cond, ◌&&◌, ◌==◌}
use Rattle.schedule.specs.Curves.{Subadditive}
pub use Rattle.tasks.specs.Numbers.{as_numbered, as_long}

-- The laws of what is left: it grows by 0 or 1 with each tick, and never exceeds the curve.
pub record Left (curve left : ℕ → ℕ) : Type 0 where
  pub steps : (L : ℕ) → 1 ≤ L → (left L ≤ left (L + 1)) × (left (L + 1) ≤ left L + 1)
  pub within : (L : ℕ) → 1 ≤ L → left L ≤ curve L

-- No curve has changed.
abbrev pub SameCurves : (ℕ → ℕ → ℕ) → (ℕ → ℕ → ℕ) → Type 0
SameCurves old new = (i L : ℕ) → i < 32 → new i L ≡ old i L

-- What is left of each task is its whole curve.
abbrev pub Fresh : (ℕ → ℕ → ℕ) → (ℕ → ℕ → ℕ) → Type 0
Fresh curve new = (i L : ℕ) → i < 32 → 1 ≤ L → new i L ≡ curve i L

-- Where a release of the task was admitted, what is left of that task has fallen by 1 at every length, and no other's has changed;
-- else nothing has changed.
abbrev pub Admitted : Bool → ℕ → (ℕ → ℕ → ℕ) → (ℕ → ℕ → ℕ) → Type 0
Admitted admitted task old new = (i L : ℕ) → i < 32 → 1 ≤ L → new i L ≡ cond (admitted && i == task) (old i L - 1) (old i L)

-- A tick has passed.
abbrev pub Advanced : (ℕ → ℕ → ℕ) → (ℕ → ℕ → ℕ) → (ℕ → ℕ → ℕ) → Type 0
Advanced curve old new = (i L : ℕ) → i < 32 → 1 ≤ L → new i L ≡ min (old i (L + 1)) (curve i L)

-- Every curve of a rule is subadditive.
abbrev pub AllSubadditive : (ℕ → ℕ → ℕ) → Type 0
AllSubadditive curve = (i : ℕ) → i < 32 → Subadditive (curve i)
