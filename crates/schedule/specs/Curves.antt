-- What every arrival curve keeps: curve L bounds the releases admitted in L successive ticks.
use Rattle.std.specs.Prelude.{◌≡◌, ℕ, ◌+◌, ◌≤◌}

-- The laws of a count that grows by 0 or 1 with each tick.
abbrev pub Steps : (ℕ → ℕ) → Type 0
Steps f = (L : ℕ) → (f L ≤ f (L + 1)) × (f (L + 1) ≤ f L + 1)

-- The laws of an arrival curve: none in no tick, one in one tick, and 0 or 1 more with each further tick.
pub record Curve (curve : ℕ → ℕ) : Type 0 where
  pub none : curve 0 ≡ 0
  pub single : curve 1 ≡ 1
  pub steps : Steps curve

-- Subadditive: two stretches joined admit no more than the two of them apart. Only the exactness of the verdict asks for it.
abbrev pub Subadditive : (ℕ → ℕ) → Type 0
Subadditive curve = (a b : ℕ) → curve (a + b) ≤ curve a + curve b
