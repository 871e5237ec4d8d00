-- How a list of times is printed.
use Rattle.std.specs.Prelude.{ℕ, List, ◌++◌, codes, decimal}
use Rattle.std.specs.List.{flat_map}

-- A space and the digits of each.
abbrev pub times_text : List ℕ → List ℕ
times_text = flat_map (λ (t : ℕ). codes " " ++ decimal t)
