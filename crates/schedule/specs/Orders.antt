-- Priority orders: of two tasks, which goes first.
use Rattle.std.specs.Prelude.{ℕ, ◌<◌, Bool, T, ◌⊎◌, ◌≢◌}

-- The laws of a priority order on tasks 0 to n - 1: no task before itself, of two different tasks exactly one first, and transitive.
pub record Ordered (n : ℕ) (before : ℕ → ℕ → Bool) : Type 0 where
  pub irreflexive : (a : ℕ) → a < n → T (before a a) → ⊥
  pub connected : (a b : ℕ) → a < n → b < n → (a ≢ b) → T (before a b) ⊎ T (before b a)
  pub asymmetric : (a b : ℕ) → a < n → b < n → T (before a b) → T (before b a) → ⊥
  pub transitive : (a b c : ℕ) → a < n → b < n → c < n → T (before a b) → T (before b c) → T (before a c)
