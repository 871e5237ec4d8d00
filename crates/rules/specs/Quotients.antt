-- Division that rounds up: it is the least factor that reaches, and all else follows from that.
use Rattle.std.proofs.Common.{inl, inr, arith, mul-le-mul_right, add-mul}
use Rattle.std.specs.Prelude.{◌≡◌, ℕ, zero, suc, ◌+◌, ◌-◌, ◌*◌, ◌/◌, ◌%◌, ◌<◌, ◌≤◌, min}
use Rattle.std.proofs.lemmas.Nat.{div-add-mod', mod_below, div_below}
use Rattle.std.proofs.lemmas.Bool.{cases_lt}
use Rattle.tasks.specs.Numbers.{rounded_up}

module _ (b : ℕ) (pos : 1 ≤ b) where
  -- it reaches
  pub reaches : (a : ℕ) → a ≤ rounded_up a b * b
  reaches a =
      elim (cases_lt 0 (a % b)) [
        | inl h ↦
            let e : min 1 (a % b) ≡ 1 = omega arith in
            rw (e, add-mul) (omega (arith, div-add-mod' a b, mod_below a b pos))
        | inr h ↦
            let e : min 1 (a % b) ≡ 0 = omega arith in
            rw (e, add-mul) (omega (arith, div-add-mod' a b))
      ]

  -- and nothing smaller does
  pub least : (a q : ℕ) → a ≤ q * b → rounded_up a b ≤ q
  least a q h =
      elim (cases_lt 0 (a % b)) [
        | inl r ↦ elim (cases_lt (a / b) q) [
          | inl l ↦ omega arith
          | inr l ↦ let m : q * b ≤ a / b * b = mul-le-mul_right b l in absurd (omega (arith, div-add-mod' a b))
        ]
        | inr r ↦
            let m : a < (q + 1) * b = rw add-mul (omega arith) in
            omega (arith, div_below a b (q + 1) pos m)
      ]

  pub rounded_none : rounded_up 0 b ≡ 0
  rounded_none = omega (arith, least 0 0 (omega arith))

  pub rounded_one : rounded_up 1 b ≡ 1
  rounded_one =
      let low : 1 ≤ rounded_up 1 b * b = reaches 1 in
      omega (arith, least 1 1 (omega arith), some (rounded_up 1 b) low)
    where
      some : (q : ℕ) → 1 ≤ q * b → 1 ≤ q
      some q h = elim (cases_lt 0 q) [ inl l ↦ l | inr l ↦ absurd (let m : q * b ≤ 0 * b = mul-le-mul_right b l in omega arith) ]

  pub rounded_grows : (a c : ℕ) → a ≤ c → rounded_up a b ≤ rounded_up c b
  rounded_grows a c h = least a (rounded_up c b) (omega (arith, reaches c))

  pub rounded_sum : (a c : ℕ) → rounded_up (a + c) b ≤ rounded_up a b + rounded_up c b
  rounded_sum a c = least (a + c) (rounded_up a b + rounded_up c b) (rw add-mul (omega (arith, reaches a, reaches c)))

  pub rounded_step : (a : ℕ) → rounded_up (a + 1) b ≤ rounded_up a b + 1
  rounded_step a = omega (arith, rounded_sum a 1, rounded_one)

  -- b less is 1 less
  pub rounded_back : (a : ℕ) → rounded_up (a - b) b ≡ rounded_up a b - 1
  rounded_back a = omega (arith, least (a - b) (rounded_up a b - 1) (low (rounded_up a b) (reaches a)), high)
    where
      low : (u : ℕ) → a ≤ u * b → a - b ≤ (u - 1) * b
      low zero h = omega arith
      low (suc u) h = let e : suc u - 1 ≡ u = omega arith in rw e (omega arith)

      high : rounded_up a b ≤ rounded_up (a - b) b + 1
      high = least a (rounded_up (a - b) b + 1) (rw add-mul (omega (arith, reaches (a - b))))
