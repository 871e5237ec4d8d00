-- A token bucket keeps the laws of an arrival rule, over bare numbers: b is the size, p the refill time, m the tokens held, d the
-- ticks until the next one returns, and gave says whether one was given in this tick.
use Rattle.std.specs.Prelude.{◌≡◌, ℕ, ◌+◌, ◌-◌, ◌*◌, ◌/◌, ◌<◌, ◌≤◌, min, Bool, true, false, cond, ◌==◌, nat_lt, refl}
use Rattle.std.proofs.Common.{inl, inr, arith, add-mul, mul-le-mul_left}
use Rattle.std.proofs.Math.Nat.{add-div_right}
use Rattle.std.proofs.lemmas.Nat.{div-add-mod', mod_below, le-div, div_below}
use Rattle.std.proofs.lemmas.Bool.{cases_lt, cases_eq}
use Rattle.std.proofs.lemmas.Bool.Decides.{nat_tests}
use Rattle.schedule.specs.Curves.{Curve, Subadditive}
use Rattle.tasks.specs.Arrivals.{Left}
use Rattle.tasks.specs.Numbers.{rounded_up}
use Rattle.rules.specs.Pacing.{Paced}
use Rattle.rules.specs.Tokens.{full_curve, rest_curve}
use Rattle.rules.specs.PacingLemmas.{paced_subadditive}
use Rattle.rules.specs.Quotients.{reaches, least}

module _ (p : ℕ) (pos : 1 ≤ p) where
  div_grows : (a c : ℕ) → a ≤ c → a / p ≤ c / p
  div_grows a c h = le-div (a / p) c p pos (omega (arith, div-add-mod' a p))

  -- p more is 1 more
  div_over : (a c : ℕ) → c ≡ a + p → c / p ≡ a / p + 1
  div_over a c e = rw e (add-div_right a pos)

  -- c more is at most c more
  div_slow : (a c : ℕ) → (a + c) / p ≤ a / p + c
  div_slow a c =
      let m : c * 1 ≤ c * p = mul-le-mul_left c pos in
      omega (arith, div_below (a + c) p (a / p + c + 1) pos (omega (arith, div-add-mod' a p, mod_below a p pos)))

  pub full_lawful : (b : ℕ) → 1 ≤ b → Curve (full_curve b p)
  full_lawful b some = record {
    none = omega arith;
    single = omega arith;
    steps = λ L. omega (arith, div_grows (L - 1) (L + 1 - 1) (omega arith), div_grows (L + 1 - 1) (L - 1 + 1) (omega arith), div_slow (L - 1) 1);
  }

  -- c ticks more bring no more tokens back than c ticks begun have times p
  div_ahead : (x c : ℕ) → (x + c) / p ≤ x / p + rounded_up c p
  div_ahead x c =
      let m : x + c < (x / p + rounded_up c p + 1) * p =
      rw (add-mul, add-mul) (omega (arith, reaches p pos c, div-add-mod' x p, mod_below x p pos))
      in
      omega (arith, div_below (x + c) p (x / p + rounded_up c p + 1) pos m)

  -- a ticks begin at most one stretch of p more than they hold before the last of them
  begun : (a : ℕ) → 1 ≤ a → rounded_up a p ≤ 1 + (a - 1) / p
  begun a h =
      least p pos a (1 + (a - 1) / p) (rw add-mul (omega (arith, div-add-mod' (a - 1) p, mod_below (a - 1) p pos)))

  -- a full bucket gives a token in every tick while they last, and then as they return
  pub full_paced : (b : ℕ) → 1 ≤ b → Paced (full_curve b p)
  full_paced b some a h =
      elim (cases_lt (b + (a - 1) / p) a) [
        | inl late ↦ (p, record { lasting = pos; ahead = λ c. returning c late; behind = omega (arith, begun a h) })
        | inr early ↦ (1, record { lasting = omega arith; ahead = λ c. bursting c early; behind = least 1 (omega arith) a _ (omega arith) })
      ]
    where
      returning : (c : ℕ) → b + (a - 1) / p < a → full_curve b p (a + c) ≤ full_curve b p a + rounded_up c p
      returning c late =
          let e : a + c - 1 ≡ a - 1 + c = omega arith in
          rw e (omega (arith, div_ahead (a - 1) c))

      bursting : (c : ℕ) → a ≤ b + (a - 1) / p → full_curve b p (a + c) ≤ full_curve b p a + rounded_up c 1
      bursting c early = omega (arith, reaches 1 (omega arith) c)

  pub full_subadditive : (b : ℕ) → 1 ≤ b → Subadditive (full_curve b p)
  full_subadditive b some = paced_subadditive (full_curve b p) (omega arith) (full_paced b some)

  one_given : (gave : Bool) → cond gave 1 0 ≤ 1
  one_given true = omega arith
  one_given false = omega arith

  -- where a token is missing, those that return make up for it at most
  missing : (d x : ℕ) → (x + (p - d)) / p ≤ x / p + 1
  missing d x = omega (arith, div_grows (x + (p - d)) (x + p) (omega arith), div_over x (x + p) refl)

  -- what is held and returns is within the size and what returns to a full bucket
  within_full : (b m d x : ℕ) → m ≤ b → (m ≡ b → d ≡ p) → m + (x + (p - d)) / p ≤ b + x / p
  within_full b m d x h rested =
      elim (cases_eq m b) [
        | inl e ↦
            let z : x + (p - d) ≡ x = omega (arith, rested e) in
            rw z (omega arith)
        | inr ne ↦ omega (arith, missing d x)
      ]

  pub rest_lawful : (b m d : ℕ) (gave : Bool) → m ≤ b → (m ≡ b → d ≡ p) → Left (full_curve b p) (rest_curve p m d gave)
  rest_lawful b m d gave h rested = record {
    steps = λ L l.
        let e : L + 1 - 1 + (p - d) ≡ L - 1 + (p - d) + 1 = omega arith in
        rw e (omega (arith, one_given gave, div_grows (L - 1 + (p - d)) (L - 1 + (p - d) + 1) (omega arith), div_slow (L - 1 + (p - d)) 1));
    within = λ L l. omega (arith, one_given gave, within_full b m d (L - 1) h rested);
  }

  -- nothing returns in the tick itself
  none_returns : (d : ℕ) → 1 ≤ d → (1 - 1 + (p - d)) / p ≡ 0
  none_returns d low = omega (arith, div_below (1 - 1 + (p - d)) p 1 pos (omega arith))

  -- the bucket is open where it has not given and holds a token
  pub open_from : (m d : ℕ) (gave : Bool) → 1 ≤ d → gave ≡ false → nat_lt 0 m ≡ (rest_curve p m d gave 1 == 1)
  open_from m d gave low e =
      let n : rest_curve p m d false 1 ≡ min 1 m = omega (arith, none_returns d low) in
      rw (e, n) (grind (arith, nat_tests))

  pub open_means : (m d : ℕ) (gave : Bool) → 1 ≤ d → rest_curve p m d gave 1 ≡ 1 → (gave ≡ false) × (1 ≤ m)
  open_means m d true low e = absurd (omega arith)
  open_means m d false low e = (refl, (omega (arith, none_returns d low)))

  pub gives : (m d : ℕ) (gave : Bool) → gave ≡ false → 1 ≤ m → (L : ℕ) → 1 ≤ L → rest_curve p (m - 1) d true L ≡ rest_curve p m d gave L - 1
  gives m d gave e h L l = rw e (omega arith)

  -- a tick over a full bucket
  pub ticks_full : (b m d : ℕ) (gave : Bool) → m ≡ b → d ≡ p → gave ≡ false → (L : ℕ) → 1 ≤ L →
      rest_curve p m d false L ≡ min (rest_curve p m d gave (L + 1)) (full_curve b p L)
  ticks_full b m d gave full rest idle L l =
      let z : L - 1 + (p - d) ≡ L - 1 = omega arith in
      let y : L + 1 - 1 + (p - d) ≡ L = omega arith in
      rw (idle, z, y, full) (omega (arith, div_grows (L - 1) L (omega arith)))

  -- one that brings the next token nearer
  pub ticks_on : (b m d : ℕ) (gave : Bool) → m < b → 1 < d → d ≤ p → (L : ℕ) → 1 ≤ L →
      rest_curve p m (d - 1) false L ≡ min (rest_curve p m d gave (L + 1)) (full_curve b p L)
  ticks_on b m d gave h low high L l =
      let y : L + 1 - 1 + (p - d) ≡ L - 1 + (p - (d - 1)) = omega arith in
      rw y (omega (arith, one_given gave, missing (d - 1) (L - 1)))

  -- one in which a token returns
  pub ticks_back : (b m d : ℕ) (gave : Bool) → m < b → d ≡ 1 → (L : ℕ) → 1 ≤ L →
      rest_curve p (m + 1) p false L ≡ min (rest_curve p m d gave (L + 1)) (full_curve b p L)
  ticks_back b m d gave h due L l =
      let z : L - 1 + (p - p) ≡ L - 1 = omega arith in
      rw z (omega (arith, one_given gave, div_over (L - 1) (L + 1 - 1 + (p - d)) (omega arith)))
