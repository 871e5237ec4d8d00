-- Paces: why the rules that are delivered, and all that are joined of them, have subadditive curves.
use Rattle.std.specs.Prelude.{ℕ, ◌+◌, ◌<◌, ◌≤◌}
use Rattle.tasks.specs.Numbers.{rounded_up}

-- At a length a the curve has the pace p: c ticks more admit at most one release more in every p ticks begun, and the a ticks
-- themselves admit at least one in every p ticks begun.
pub record Pace (curve : ℕ → ℕ) (a p : ℕ) : Type 0 where
  pub lasting : 1 ≤ p
  pub ahead : (c : ℕ) → curve (a + c) ≤ curve a + rounded_up c p
  pub behind : rounded_up a p ≤ curve a

-- The curve has a pace at every length from 1.
abbrev pub Paced : (ℕ → ℕ) → Type 0
Paced curve = (a : ℕ) → 1 ≤ a → (p : ℕ) × Pace curve a p

-- Every curve of a rule is paced.
abbrev pub AllPaced : (ℕ → ℕ → ℕ) → Type 0
AllPaced curve = (i : ℕ) → i < 32 → Paced (curve i)
