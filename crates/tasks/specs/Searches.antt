-- Searches for the first place that passes a test.
use Rattle.std.specs.Prelude.{ℕ, zero, suc, Bool, cond, Some, None, Option}

-- The first of n numbers, counted from i, that passes the test.
abbrev pub first_from : (ℕ → Bool) → ℕ → ℕ → Option ℕ
first_from test i zero = None
first_from test i (suc n) = cond (test i) (Some i) (first_from test (suc i) n)

-- The first of the numbers below n that passes the test.
abbrev pub first_where : (ℕ → Bool) → ℕ → Option ℕ
first_where test n = first_from test 0 n
