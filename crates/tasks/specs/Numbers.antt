-- How questions read the numbers that they are asked, and division that rounds up.
use Rattle.std.specs.Prelude.{ℕ, ◌+◌, ◌/◌, ◌%◌, min}

-- A task's number as questions read it: above 31 it is 31.
abbrev pub as_numbered : ℕ → ℕ
as_numbered i = min i 31

-- A length as the curve's question reads it: above 1,000,000 it is 1,000,000.
abbrev pub as_long : ℕ → ℕ
as_long L = min L 1000000

-- a / b, rounded up.
abbrev pub rounded_up : ℕ → ℕ → ℕ
rounded_up a b = a / b + min 1 (a % b)
