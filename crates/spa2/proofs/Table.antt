-- The rule of the threshold table, tested once over all of its entries.
use Rattle.std.proofs.Common.{◌≡◌, ℕ, zero, suc, ◌+◌, ◌-◌, ◌*◌, ◌^◌, ◌<◌, ◌≤◌, Bool, true, not, ◌&&◌, leb, List, [], ◌∷◌, length, get_or, refl, subst, inl, inr, arith}
use native.Mathlib.Nat.{pow-le-pow_left}
use Rattle.std.proofs.lemmas.Bool.{and_parts, leb-true, leb-false, not-true, cases_lt}
use Rattle.spa2.specs.Thetas.{Threshold, thetas, theta_of, as_counted}

-- The load v fits N tasks.
abbrev fits : ℕ → ℕ → Bool
fits N v = leb ((v + N * 1000000) ^ N) (2 * (N * 1000000) ^ N)

-- v fits N tasks, and the next load does not.
abbrev marks : ℕ → ℕ → Bool
marks N v = fits N v && not (fits N (v + 1))

-- Each entry of the list marks its number of tasks, the first one N.
abbrev all_mark : ℕ → List ℕ → Bool
all_mark N [] = true
all_mark N (v ∷ vs) = marks N v && all_mark (suc N) vs

marked_at : (vs : List ℕ) (N : ℕ) → all_mark N vs ≡ true → (k : ℕ) → k < length vs → marks (k + N) (get_or vs k 0) ≡ true
marked_at [] N t k h = absurd (omega arith)
marked_at (v ∷ vs) N t zero h =
    subst (λ (M : ℕ). marks M v ≡ true) (omega arith) (and_parts (marks N v) (all_mark (suc N) vs) t).0
marked_at (v ∷ vs) N t (suc k) h =
    let e : k + suc N ≡ suc k + N = omega arith in
    subst (λ (M : ℕ). marks M (get_or vs k 0) ≡ true) e (marked_at vs (suc N) (and_parts (marks N v) (all_mark (suc N) vs) t).1 k (omega arith))

-- What marks a number of tasks is its threshold: greater loads have greater powers.
threshold_from : (N v : ℕ) → marks N v ≡ true → Threshold N v
threshold_from N v t =
    let two = and_parts (fits N v) (not (fits N (v + 1))) t in
    let over = leb-false ((v + 1 + N * 1000000) ^ N) (2 * (N * 1000000) ^ N) (not-true (fits N (v + 1)) two.1) in
    record {
      holds = leb-true ((v + N * 1000000) ^ N) (2 * (N * 1000000) ^ N) two.0;
      greatest = λ w h. elim (cases_lt v w) [
        | inl l ↦ absurd (let more : (v + 1 + N * 1000000) ^ N ≤ (w + N * 1000000) ^ N = let le : v + 1 + N * 1000000 ≤ w + N * 1000000 = omega arith in pow-le-pow_left le N in omega arith)
        | inr g ↦ g
      ];
    }

-- The one test over the table.
tested : all_mark 1 thetas ≡ true
tested = refl

-- Every count of tasks gets its threshold.
pub theta_rule : (n : ℕ) → Threshold (as_counted n) (theta_of n)
theta_rule n =
    let low : as_counted n - 1 < 32 = omega arith in
    let e : (as_counted n - 1) + 1 ≡ as_counted n = omega arith in
    subst (λ (M : ℕ). Threshold M (theta_of n)) e (threshold_from (as_counted n - 1 + 1) (theta_of n) (marked_at thetas 1 tested (as_counted n - 1) low))

-- No entry is above a whole processor.
all_whole : List ℕ → Bool
all_whole [] = true
all_whole (v ∷ vs) = leb v 1000000 && all_whole vs

whole_at : (vs : List ℕ) → all_whole vs ≡ true → (k : ℕ) → get_or vs k 0 ≤ 1000000
unfolding all_whole
whole_at [] t k = omega arith
whole_at (v ∷ vs) t zero = leb-true v 1000000 (and_parts (leb v 1000000) (all_whole vs) t).0
whole_at (v ∷ vs) t (suc k) = whole_at vs (and_parts (leb v 1000000) (all_whole vs) t).1 k

pub theta_whole : (n : ℕ) → theta_of n ≤ 1000000
unfolding all_whole
theta_whole n = whole_at thetas refl (as_counted n - 1)
