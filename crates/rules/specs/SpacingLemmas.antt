-- Spaced arrivals keep the laws, over bare numbers: b is the period, w the wait.
use Rattle.std.specs.Prelude.{◌≡◌, ℕ, ◌+◌, ◌-◌, ◌<◌, ◌≤◌, min, cond, ◌≢◌, List, length, ◌==◌, slice_index, slice_index_or, slice_set, refl}
use Rattle.std.proofs.Common.{inl, inr, sym, ◌∙◌, arith}
use Rattle.std.proofs.lemmas.List.{get_or-set_same, get_or-set_other}
use Rattle.std.proofs.lemmas.Bool.{cases_lt, cases_eq, eq-eqb, ne_eqb}
use Rattle.schedule.specs.Curves.{Curve, Subadditive}
use Rattle.tasks.specs.Arrivals.{Left, AllSubadditive}
use Rattle.tasks.specs.Numbers.{rounded_up}
use Rattle.rules.specs.Pacing.{Paced, AllPaced}
use Rattle.rules.specs.Regulators.{of_each_task}
use Rattle.rules.specs.Spacing.{Spaced, gap_curve, spaced_curve}
use Rattle.rules.specs.Quotients.{rounded_none, rounded_one, rounded_grows, rounded_step, rounded_back, rounded_sum}

module _ (b : ℕ) (pos : 1 ≤ b) where
  pub spaced_lawful : Curve (λ L. rounded_up L b)
  spaced_lawful = record {
    none = rounded_none b pos;
    single = rounded_one b pos;
    steps = λ L. (rounded_grows b pos L (L + 1) (omega arith), rounded_step b pos L);
  }

  pub spaced_paced : Paced (λ L. rounded_up L b)
  spaced_paced a h = (b, record { lasting = pos; ahead = λ c. rounded_sum b pos a c; behind = omega arith })

  pub spaced_subadditive : Subadditive (λ L. rounded_up L b)
  spaced_subadditive = rounded_sum b pos

  pub spaced_left_lawful : (w : ℕ) → Left (λ L. rounded_up L b) (λ L. rounded_up (L - w) b)
  spaced_left_lawful w = record {
    steps = λ L h. (rounded_grows b pos (L - w) (L + 1 - w) (omega arith), step L);
    within = λ L h. rounded_grows b pos (L - w) L (omega arith);
  }
    where
      step : (L : ℕ) → rounded_up (L + 1 - w) b ≤ rounded_up (L - w) b + 1
      step L = omega (arith, rounded_grows b pos (L + 1 - w) (L - w + 1) (omega arith), rounded_step b pos (L - w))

  pub spaced_admits : (L : ℕ) → rounded_up (L - b) b ≡ rounded_up (L - 0) b - 1
  spaced_admits L = let e : L - 0 ≡ L = omega arith in rw e (rounded_back b pos L)

  pub spaced_advances : (w L : ℕ) → rounded_up (L - (w - 1)) b ≡ min (rounded_up (L + 1 - w) b) (rounded_up L b)
  spaced_advances w L =
      elim (cases_lt 0 w) [
        | inl h ↦
            let e : L - (w - 1) ≡ L + 1 - w = omega arith in
            rw e (omega (arith, rounded_grows b pos (L + 1 - w) L (omega arith)))
        | inr h ↦
            let e : L - (w - 1) ≡ L = omega arith in
            rw e (omega (arith, rounded_grows b pos L (L + 1 - w) (omega arith)))
      ]

-- a task that waits for nothing is open
pub spaced_open : (b w : ℕ) → 1 ≤ b → w ≤ 0 → rounded_up (1 - w) b ≡ 1
spaced_open b w pos h = let e : 1 - w ≡ 1 = omega arith in rw e (rounded_one b pos)

-- What is left after a release of task t, which is told as n and waits for nothing: t waits for its period.
pub spaced_falls : (periods waits : List ℕ) (t n : ℕ) → t ≡ n → t < length waits → 1 ≤ slice_index periods t → slice_index waits t ≤ 0 → (i L : ℕ) →
    rounded_up (L - slice_index (slice_set waits t (slice_index periods t)) i) (slice_index periods i)
    ≡ cond (i == n) (rounded_up (L - slice_index waits i) (slice_index periods i) - 1) (rounded_up (L - slice_index waits i) (slice_index periods i))
spaced_falls periods waits t n same h pos idle i L =
    elim (cases_eq i t) [
      | inl e ↦
          let z : slice_index_or waits t 0 ≡ 0 = omega arith in
          rw (e, eq-eqb t n same, get_or-set_same waits t (slice_index periods t) 0 h, z) (spaced_admits (slice_index periods t) pos L)
      | inr ne ↦
          let d : i ≢ t = ne in
          rw (ne_eqb i n (λ k. ne (k ∙ sym same)), get_or-set_other waits t i (slice_index periods t) 0 d) refl
    ]

pub all_spaced_subadditive : (r : Spaced) → AllSubadditive (spaced_curve r)
all_spaced_subadditive r =
    of_each_task gap_curve gap_curve (λ curve _. Subadditive curve) (λ g. spaced_subadditive g.period g.lasting) r.regulators r.wide

pub all_spaced_paced : (r : Spaced) → AllPaced (spaced_curve r)
all_spaced_paced r =
    of_each_task gap_curve gap_curve (λ curve _. Paced curve) (λ g. spaced_paced g.period g.lasting) r.regulators r.wide
