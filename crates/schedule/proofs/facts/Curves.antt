-- What grows by 0 or 1 with each tick never falls.
use Rattle.std.proofs.Common.{◌≡◌, ℕ, zero, suc, ◌+◌, ◌-◌, ◌≤◌, ap, add-zero, arith}
use Rattle.schedule.specs.Curves.{Steps}

-- A count that grows by 0 or 1 with each tick, from some tick on.
abbrev pub StepsFrom : (ℕ → ℕ) → ℕ → Type 0
StepsFrom f from = (L : ℕ) → from ≤ L → (f L ≤ f (L + 1)) × (f (L + 1) ≤ f L + 1)

pub steps_mono : (f : ℕ → ℕ) (from : ℕ) → StepsFrom f from → (m n : ℕ) → from ≤ m → m ≤ n → f m ≤ f n
steps_mono f from st m n h l = let e : f (m + (n - m)) ≡ f n = ap f (omega arith) in omega (arith, go (n - m))
  where
    go : (d : ℕ) → f m ≤ f (m + d)
    go zero = rw (add-zero m) (omega arith)
    go (suc d) = let e : f (m + suc d) ≡ f ((m + d) + 1) = ap f (omega arith) in omega (arith, go d, st (m + d) (omega arith))

pub curve_mono : (f : ℕ → ℕ) → Steps f → (m n : ℕ) → m ≤ n → f m ≤ f n
curve_mono f st m n h = steps_mono f 0 (λ L o. st L) m n (omega arith) h
