-- Paced curves are subadditive, and so is the smaller of two of them, which is paced again.
use Rattle.std.proofs.Common.{inl, inr, arith, mul-le-mul_left}
use Rattle.std.specs.Prelude.{◌≡◌, ℕ, ◌+◌, ◌*◌, ◌<◌, ◌≤◌, min}
use Rattle.std.proofs.lemmas.Bool.{cases_lt}
use Rattle.schedule.specs.Curves.{Subadditive}
use Rattle.tasks.specs.Numbers.{rounded_up}
use Rattle.rules.specs.Pacing.{Pace, Paced}
use Rattle.rules.specs.Quotients.{reaches, least}

-- a slower pace admits no more
pub slower : (c p q : ℕ) → 1 ≤ p → p ≤ q → rounded_up c q ≤ rounded_up c p
slower c p q pos h =
    let far : rounded_up c p * p ≤ rounded_up c p * q = mul-le-mul_left (rounded_up c p) h in
    least q (omega arith) c (rounded_up c p) (omega (arith, reaches p pos c))

-- two stretches with a pace each: the faster one's releases make up for what the slower one goes on with
pace_sum : (f : ℕ → ℕ) (a c p q : ℕ) → Pace f a p → Pace f c q → q ≤ p → f (a + c) ≤ f a + f c
pace_sum f a c p q at_a at_c h = omega (arith, at_a.ahead c, slower c q p at_c.lasting h, at_c.behind)

pub paced_subadditive : (f : ℕ → ℕ) → f 0 ≡ 0 → Paced f → Subadditive f
paced_subadditive f none paced a c =
    elim (cases_lt 0 a) [
      | inl ha ↦ elim (cases_lt 0 c) [
        | inl hc ↦ both ha hc (paced a ha) (paced c hc)
        | inr hc ↦ let e : a + c ≡ a = omega arith in rw e (omega arith)
      ]
      | inr ha ↦ let e : a + c ≡ c = omega arith in rw e (omega arith)
    ]
  where
    both : 1 ≤ a → 1 ≤ c → (p : ℕ) × Pace f a p → (q : ℕ) × Pace f c q → f (a + c) ≤ f a + f c
    both ha hc (p, at_a) (q, at_c) =
        elim (cases_lt p q) [
          | inl h ↦ let e : a + c ≡ c + a = omega arith in rw e (omega (arith, pace_sum f c a q p at_c at_a (omega arith)))
          | inr h ↦ pace_sum f a c p q at_a at_c h
        ]

pub joined_paced : (f g : ℕ → ℕ) → Paced f → Paced g → Paced (λ L. min (f L) (g L))
joined_paced f g pf pg a ha = elim (cases_lt (f a) (g a)) [ inl h ↦ of_first h (pf a ha) | inr h ↦ of_second h (pg a ha) ]
  where
    of_first : f a < g a → (p : ℕ) × Pace f a p → (p : ℕ) × Pace (λ L. min (f L) (g L)) a p
    of_first h (p, at_a) =
        (p, record { lasting = at_a.lasting; ahead = λ c. omega (arith, at_a.ahead c); behind = omega (arith, at_a.behind) })

    of_second : g a ≤ f a → (p : ℕ) × Pace g a p → (p : ℕ) × Pace (λ L. min (f L) (g L)) a p
    of_second h (p, at_a) =
        (p, record { lasting = at_a.lasting; ahead = λ c. omega (arith, at_a.ahead c); behind = omega (arith, at_a.behind) })
