-- Two places keep the laws of an arrival rule, over bare numbers: f and s are the ticks until they are free.
use Rattle.std.proofs.Common.{inl, inr, arith, add-mul}
use Rattle.std.specs.Prelude.{◌≡◌, ℕ, ◌+◌, ◌-◌, ◌<◌, ◌≤◌, min, max, refl}
use Rattle.std.proofs.lemmas.Bool.{cases_lt}
use Rattle.schedule.specs.Curves.{Curve}
use Rattle.tasks.specs.Arrivals.{Left}
use Rattle.tasks.specs.Numbers.{rounded_up}
use Rattle.rules.specs.Quotients.{reaches, least, rounded_grows}
use Rattle.arrivals.specs.Pairs.{places}

pos : 1 ≤ 7
pos = omega arith

grows : (a c : ℕ) → a ≤ c → rounded_up a 7 ≤ rounded_up c 7
grows a c h = rounded_grows 7 pos a c h

-- seven more is at most one more
over : (a c : ℕ) → a ≤ c + 7 → rounded_up a 7 ≤ rounded_up c 7 + 1
over a c h = least 7 pos a (rounded_up c 7 + 1) (rw add-mul (omega (arith, reaches 7 pos c)))

pub places_step : (f s : ℕ) → f < s → s < f + 7 → (L : ℕ) → (places f s L ≤ places f s (L + 1)) × (places f s (L + 1) ≤ places f s L + 1)
places_step f s low high L =
    omega (arith, grows (L - f) (L + 1 - f) (omega arith), grows (L - s) (L + 1 - s) (omega arith), grows (L + 1 - s) (L - f) (omega arith), over (L + 1 - f) (L - s) (omega arith))

pub places_lawful : Curve (places 0 1)
places_lawful = record {
  none = refl;
  single = refl;
  steps = places_step 0 1 (omega arith) (omega arith);
}

pub places_left : (f s : ℕ) → f < s → s < f + 7 → Left (places 0 1) (places f s)
places_left f s low high = record {
  steps = λ L _. places_step f s low high L;
  within = λ L _. omega (arith, grows (L - f) (L - 0) (omega arith), grows (L - s) (L - 1) (omega arith));
}

-- a tick passes
pub places_advance : (f s : ℕ) → f < s → s ≤ 7 → (L : ℕ) → 1 ≤ L → places (max (f - 1) 0) (max (s - 1) 1) L ≡ min (places f s (L + 1)) (places 0 1 L)
places_advance f s low high L l =
    elim (cases_lt 0 f) [
      | inl h ↦
          let e : L - max (f - 1) 0 ≡ L + 1 - f = omega arith in
          let d : L - max (s - 1) 1 ≡ L + 1 - s = omega arith in
          rw (e, d) (omega (arith, grows (L + 1 - f) (L - 0) (omega arith), grows (L + 1 - s) (L - 1) (omega arith)))
      | inr h ↦
          let e : L - max (f - 1) 0 ≡ L - 0 = omega arith in
          elim (cases_lt 1 s) [
            | inl k ↦
                let d : L - max (s - 1) 1 ≡ L + 1 - s = omega arith in
                let c : L + 1 - f ≡ L + 1 = omega arith in
                rw (e, d, c) (omega (arith, over (L + 1) (L + 1 - s) (omega arith), grows (L - 0) (L + 1) (omega arith), over (L + 1) (L - 0) (omega arith), grows (L - 1) (L - 0) (omega arith), grows (L + 1 - s) (L - 1) (omega arith)))
            | inr k ↦
                let d : L - max (s - 1) 1 ≡ L - 1 = omega arith in
                rw (e, d) (omega (arith, grows (L - 0) (L + 1 - f) (omega arith), grows (L - 1) (L + 1 - s) (omega arith)))
          ]
    ]
