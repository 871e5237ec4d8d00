-- Loads, in millionths of a processor.
use Rattle.std.specs.Prelude.{ℕ, ◌+◌, ◌-◌, ◌*◌, ◌/◌, ◌%◌, min, Bool, nat_lt}

-- The load of a cost in every period, rounded up.
abbrev pub load_of : ℕ → ℕ → ℕ
load_of cost period = cost * 1000000 / period + min 1 ((cost * 1000000) % period)

-- A load so large that its task may be placed beforehand: above Θ / (1 + Θ).
abbrev pub heavy : ℕ → ℕ → Bool
heavy theta load = nat_lt (theta * 1000000) (load * (1000000 + theta))

-- The cost that fills a processor of the load up to the threshold, rounded down; 0 where the load has reached it.
abbrev pub cut_of : ℕ → ℕ → ℕ → ℕ
cut_of theta load period = (theta - load) * period / 1000000
