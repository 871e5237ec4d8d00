-- Two rules joined.
use Rattle.std.specs.Prelude.{ℕ, min}

-- For each task and length the smaller of two numbers: so the curves of two rules are joined, and what is left of them.
abbrev pub joined : (ℕ → ℕ → ℕ) → (ℕ → ℕ → ℕ) → ℕ → ℕ → ℕ
joined first second i L = min (first i L) (second i L)
