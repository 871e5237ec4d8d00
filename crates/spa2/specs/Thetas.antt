-- The load that a processor is filled up to: the bound of Liu and Layland, in millionths.
use Rattle.std.specs.Prelude.{ℕ, ◌+◌, ◌-◌, ◌*◌, ◌^◌, ◌≤◌, min, max, List, [], ◌∷◌, slice_index}

-- v is the greatest load with (v + N·10⁶)^N ≤ 2·(N·10⁶)^N: the greatest below N·(2^(1/N) - 1) millions.
pub record Threshold (N v : ℕ) : Type 0 where
  pub holds : (v + N * 1000000) ^ N ≤ 2 * (N * 1000000) ^ N
  pub greatest : (w : ℕ) → (w + N * 1000000) ^ N ≤ 2 * (N * 1000000) ^ N → w ≤ v

-- The thresholds for 1 to 32 tasks.
abbrev pub thetas : List ℕ
thetas = 1000000 ∷ 828427 ∷ 779763 ∷ 756828 ∷ 743491 ∷ 734772 ∷ 728626 ∷ 724061
    ∷ 720537 ∷ 717734 ∷ 715451 ∷ 713557 ∷ 711958 ∷ 710592 ∷ 709411 ∷ 708380
    ∷ 707472 ∷ 706666 ∷ 705945 ∷ 705298 ∷ 704713 ∷ 704182 ∷ 703697 ∷ 703253
    ∷ 702845 ∷ 702469 ∷ 702121 ∷ 701797 ∷ 701497 ∷ 701216 ∷ 700954 ∷ 700708 ∷ []

-- A count of tasks as the table is asked for it: at least 1, at most 32.
abbrev pub as_counted : ℕ → ℕ
as_counted n = max 1 (min n 32)

-- The threshold for n tasks.
abbrev pub theta_of : ℕ → ℕ
theta_of n = slice_index thetas (as_counted n - 1)
