-- The curve of a token bucket, and what is left of it.
use Rattle.std.specs.Prelude.{ℕ, ◌+◌, ◌-◌, ◌/◌, min, Bool, cond}
use Rattle.rules.specs.declared.tokens.Tokens.{Tokens}

-- In L ticks a full bucket gives its tokens and those that return, but no more than one in each tick.
abbrev pub full_curve : ℕ → ℕ → ℕ → ℕ
full_curve size refill L = min L (size + (L - 1) / refill)

-- What a bucket still gives in L ticks: the tokens that it holds and those that return, the first in `due` ticks, but no more than
-- one in each tick, and none in this one where it has given in it.
abbrev pub rest_curve : ℕ → ℕ → ℕ → Bool → ℕ → ℕ
rest_curve refill held due gave L = min (L - cond gave 1 0) (held + (L - 1 + (refill - due)) / refill)

abbrev pub tokens_curve : Tokens → ℕ → ℕ
tokens_curve t L = full_curve t.size t.refill L

abbrev pub tokens_left : Tokens → ℕ → ℕ
tokens_left t L = rest_curve t.refill t.held t.due t.gave L
