-- The worked examples hold.
use Rattle.std.proofs.Common.{ℕ, zero, suc, ◌<◌, List, [], ◌∷◌, sym, refl, subst, inl, inr, arith}
use Rattle.schedule.specs.declared.Part.{Part}
use Rattle.schedule.specs.Lists.{◌∈◌}
use Rattle.schedule.specs.Curves.{Curve}
use Rattle.schedule.specs.Layout.{System, Suffices}
use Rattle.schedule.specs.TickRule.{release, taken}
use Rattle.schedule.specs.Examples.{part, pair, cut, Worked}
use Rattle.schedule.proofs.facts.Lists.{in_none, in_cases}
use Rattle.schedule.proofs.examples.Tested.{laid_out_tested}

-- What holds of tasks 0 and 1 holds of all.
each_of_two : (P : ℕ → Type 0) → P 0 → P 1 → (i : ℕ) → i < 2 → P i
each_of_two P a b zero h = a
each_of_two P a b (suc zero) h = b
each_of_two P a b (suc (suc i)) h = absurd (omega arith)

pair_curves : (i : ℕ) → i < 2 → Curve ((pair 16).curve i)
pair_curves = each_of_two (λ i. Curve ((pair 16).curve i))
    (record { none = refl; single = refl; steps = λ L. (omega arith, omega arith) })
    (record { none = refl; single = refl; steps = λ L. (omega arith, omega arith) })

cut_curves : (i : ℕ) → i < 2 → Curve (cut.curve i)
cut_curves = each_of_two (λ i. Curve (cut.curve i))
    (record { none = refl; single = refl; steps = λ L. (omega arith, omega arith) })
    (record { none = refl; single = refl; steps = λ L. (omega arith, omega arith) })

-- Some ticks suffice for each part of a list, taken in turn.
abbrev Enough : System → List Part → List ℕ → Type 0
Enough sys [] ts = Unit
Enough sys (q ∷ qs) [] = ⊥
Enough sys (q ∷ qs) (t ∷ ts) = Suffices sys q t × Enough sys qs ts

enough : (sys : System) (qs : List Part) (ts : List ℕ) → Enough sys qs ts → (q : Part) → q ∈ qs → (t : ℕ) × Suffices sys q t
enough sys [] ts e q m = absurd (in_none q m)
enough sys (p ∷ ps) [] e q m = absurd e
enough sys (p ∷ ps) (t ∷ ts) e q m =
    elim (in_cases q p ps m) [
      | inl d ↦ subst (λ z. (t : ℕ) × Suffices sys z t) (sym d) (t, e.0)
      | inr n ↦ enough sys ps ts e.1 q n
    ]

pub worked : Worked
worked = record {
  pair_laid_out = laid_out_tested (pair 16) refl refl refl refl refl pair_curves;
  pair_in_time = enough (pair 16) (pair 16).parts (5 ∷ 16 ∷ []) ((omega arith, omega arith, omega arith), ((omega arith, omega arith, omega arith), tt));
  pair_first = ((omega arith, omega arith, omega arith), λ u h s. omega (arith, s.0, s.2));
  pair_second = ((omega arith, omega arith, omega arith), λ u h s. omega (arith, s.0, s.2));
  pair_answers = refl;
  short_laid_out = laid_out_tested (pair 15) refl refl refl refl refl pair_curves;
  short_overloaded = λ it. let r = it (part 1 0 6 15) (part 0 0 5 10 ∷ [], [], refl) in omega (arith, r.1.0, r.1.1, r.1.2);
  short_late = (
    1,
    record { proc = 0; cost = 6; begin = 0; end = 15 },
    _,
    omega arith,
    ([], [], refl),
    (((release 0, taken) ∷ []), refl),
    record { reached = omega arith; unfinished = refl; short = omega arith },
  );
  short_loses = refl;
  pair_refusals = refl;
  cut_laid_out = laid_out_tested cut refl refl refl refl refl cut_curves;
  cut_in_time = enough cut cut.parts (3 ∷ 2 ∷ 7 ∷ []) ((omega arith, omega arith, omega arith), ((omega arith, omega arith, omega arith), ((omega arith, omega arith, omega arith), tt)));
  cut_answers = refl;
}
