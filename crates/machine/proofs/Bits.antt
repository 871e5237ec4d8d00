-- Words of bits: one bit more, the lowest bit, how many bits, and a bit by its place.
use Rattle.std.proofs.Common.{◌≡◌, ℕ, zero, suc, ◌+◌, ◌*◌, ◌/◌, ◌%◌, ◌^◌, ◌<◌, ◌≤◌, max, Bool, true, false, ◌||◌, eqb, sym, refl, ap, ◌∙◌, subst, ap₂, inl, inr, one-mul, arith}
use lib.Bits.{bit_or, or_step, or_zero_r, shifted_half, shifted_even}
use lib.Count.{count_trailing_zeros, under, ones, ones_step}
use Rattle.std.proofs.lemmas.Nat.{div-mul-add, mod-mul-add, shr-shr}
use Rattle.std.proofs.lemmas.Bool.{cases_eq, eq-eqb, ne_eqb}
use Rattle.schedule.specs.Lists.{one_if, total, below, up_from}
use Rattle.machine.specs.Words.{word_of, bit}

one_if_low : (b : Bool) → one_if b < 2
one_if_low true = omega arith
one_if_low false = omega arith

pub word_half : (test : ℕ → Bool) (k : ℕ) → word_of test (suc k) / 2 ≡ word_of (λ r. test (suc r)) k
unfolding word_of
word_half test k = div-mul-add (word_of (λ r. test (suc r)) k) 2 (one_if (test 0)) (one_if_low (test 0))

pub word_odd : (test : ℕ → Bool) (k : ℕ) → word_of test (suc k) % 2 ≡ one_if (test 0)
unfolding word_of
word_odd test k = mod-mul-add (word_of (λ r. test (suc r)) k) 2 (one_if (test 0)) (one_if_low (test 0))

-- Tests that agree make one word.
pub word_same : (s t : ℕ → Bool) (k : ℕ) → ((r : ℕ) → r < k → s r ≡ t r) → word_of s k ≡ word_of t k
unfolding word_of
word_same s t zero h = refl
word_same s t (suc k) h =
    ap₂ (λ (a b : ℕ). a * 2 + b) (word_same (λ r. s (suc r)) (λ r. t (suc r)) k (λ r l. h (suc r) (omega arith))) (ap one_if (h 0 (omega arith)))

pub word_none : (test : ℕ → Bool) (k : ℕ) → ((r : ℕ) → r < k → test r ≡ false) → word_of test k ≡ 0
unfolding word_of
word_none test zero h = refl
word_none test (suc k) h = let e : one_if (test 0) ≡ 0 = ap one_if (h 0 (omega arith)) in omega (arith, e, word_none (λ r. test (suc r)) k (λ r l. h (suc r) (omega arith)))

or_false : (b : Bool) → (b || false) ≡ b
or_false true = refl
or_false false = refl

max_one : (b : Bool) → max (one_if b) 1 ≡ one_if (b || true)
max_one true = refl
max_one false = refl

max_none : (b : Bool) → max (one_if b) 0 ≡ one_if (b || false)
max_none true = refl
max_none false = refl

suc_eqb : (a b : ℕ) → eqb (suc a) (suc b) ≡ eqb a b
suc_eqb a b = elim (cases_eq a b) [
  | inl e ↦ eq-eqb (suc a) (suc b) (omega arith) ∙ sym (eq-eqb a b e)
  | inr ne ↦ ne_eqb (suc a) (suc b) (λ e. ne (omega arith)) ∙ sym (ne_eqb a b ne)
]

-- One bit more.
pub word_or : (test : ℕ → Bool) (k r : ℕ) → r < k → bit_or (word_of test k) (2 ^ r) ≡ word_of (λ q. test q || eqb r q) k
unfolding word_of
word_or test zero r h = absurd (omega arith)
word_or test (suc k) zero h =
    or_step (word_of test (suc k)) 1
    ∙ ap₂ (λ (a b : ℕ). bit_or a 0 * 2 + max b 1) (word_half test k) (word_odd test k)
    ∙ ap₂ (λ (a b : ℕ). a * 2 + b) (or_zero_r (word_of (λ r. test (suc r)) k)) (max_one (test 0))
    ∙ ap (λ (a : ℕ). a * 2 + one_if (test 0 || true)) (word_same (λ r. test (suc r)) (λ q. test (suc q) || eqb 0 (suc q)) k (λ q l. sym (or_false (test (suc q))) ∙ ap (λ (b : Bool). test (suc q) || b) (sym (ne_eqb 0 (suc q) (λ e. omega arith)))))
word_or test (suc k) (suc r) h =
    let half : 2 ^ suc r / 2 ≡ 2 ^ r = ap (λ (n : ℕ). n / 2) (sym (one-mul (2 ^ suc r))) ∙ shifted_half 1 r ∙ one-mul (2 ^ r) in
    let even : 2 ^ suc r % 2 ≡ 0 = ap (λ (n : ℕ). n % 2) (sym (one-mul (2 ^ suc r))) ∙ shifted_even 1 r in
    or_step (word_of test (suc k)) (2 ^ suc r)
    ∙ ap₂ (λ (a b : ℕ). bit_or a (2 ^ suc r / 2) * 2 + max b (2 ^ suc r % 2)) (word_half test k) (word_odd test k)
    ∙ ap₂ (λ (a b : ℕ). bit_or (word_of (λ q. test (suc q)) k) a * 2 + max (one_if (test 0)) b) half even
    ∙ ap₂ (λ (a b : ℕ). a * 2 + b) (word_or (λ q. test (suc q)) k r (omega arith)) (max_none (test 0))
    ∙ ap₂ (λ (a b : ℕ). a * 2 + b)
    (word_same (λ q. test (suc q) || eqb r q) (λ q. test (suc q) || eqb (suc r) (suc q)) k (λ q l. ap (λ (b : Bool). test (suc q) || b) (sym (suc_eqb r q))))
    (ap (λ (b : Bool). one_if (test 0 || b)) (sym (ne_eqb (suc r) 0 (λ e. omega arith))))

-- The lowest set bit, where there is one.
pub record Lowest (test : ℕ → Bool) (k r : ℕ) : Type 0 where
  pub most : r ≤ k
  pub here : r < k → test r ≡ true
  pub under_it : (q : ℕ) → q < r → test q ≡ false

lowest_step : (test : ℕ → Bool) (k r : ℕ) (b : Bool) → test 0 ≡ b → Lowest (λ q. test (suc q)) k r → Lowest test (suc k) (under (one_if b) r)
lowest_step test k r true e low = record { most = omega arith; here = λ h. e; under_it = λ q h. absurd (omega arith) }
lowest_step test k r false e low = record {
  most = omega (arith, low.most);
  here = λ h. low.here (omega arith);
  under_it = go;
}
  where
    go : (q : ℕ) → q < suc r → test q ≡ false
    go zero h = e
    go (suc q) h = low.under_it q (omega arith)

pub trailing_lowest : (test : ℕ → Bool) (k : ℕ) → Lowest test k (count_trailing_zeros k (word_of test k))
unfolding count_trailing_zeros word_of
trailing_lowest test zero = record { most = omega arith; here = λ h. absurd (omega arith); under_it = λ q h. absurd (omega arith) }
trailing_lowest test (suc k) =
    subst (λ (n : ℕ). Lowest test (suc k) n) (sym (ap₂ (λ (a b : ℕ). under a (count_trailing_zeros k b)) (word_odd test k) (word_half test k)))
    (lowest_step test k (count_trailing_zeros k (word_of (λ q. test (suc q)) k)) (test 0) refl (trailing_lowest (λ q. test (suc q)) k))

total_later : (f : ℕ → ℕ) (a n : ℕ) → total f (up_from (suc a) n) ≡ total (λ r. f (suc r)) (up_from a n)
total_later f a zero = refl
total_later f a (suc n) = omega (arith, total_later f (suc a) n)

-- As many bits are set as numbers pass the test.
pub word_ones : (test : ℕ → Bool) (k : ℕ) → ones (word_of test k) ≡ total (λ r. one_if (test r)) (below k)
unfolding ones word_of
word_ones test zero = refl
word_ones test (suc k) =
    ones_step (word_of test (suc k)) ∙ ap₂ (λ (a b : ℕ). a + ones b) (word_odd test k) (word_half test k)
    ∙ ap (λ (n : ℕ). one_if (test 0) + n) (word_ones (λ r. test (suc r)) k ∙ sym (total_later (λ r. one_if (test r)) 0 k))

-- A bit by its place.
pub word_bit : (test : ℕ → Bool) (k r : ℕ) → r < k → bit (word_of test k) r ≡ one_if (test r)
unfolding word_of
word_bit test zero r h = absurd (omega arith)
word_bit test (suc k) zero h = let e : word_of test (suc k) / 1 ≡ word_of test (suc k) = omega arith in ap (λ (n : ℕ). n % 2) e ∙ word_odd test k
word_bit test (suc k) (suc r) h =
    let up : 1 + r ≡ suc r = omega arith in
    ap (λ (n : ℕ). (word_of test (suc k) / 2 ^ n) % 2) (sym up)
    ∙ ap (λ (n : ℕ). n % 2) (sym (shr-shr (word_of test (suc k)) 1 r))
    ∙ ap (λ (n : ℕ). (n / 2 ^ r) % 2) (word_half test k)
    ∙ word_bit (λ q. test (suc q)) k r (omega arith)
