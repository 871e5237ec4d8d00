-- The smaller of two curves, and of what is left of them.
use Rattle.std.specs.Prelude.{◌≡◌, ℕ, ◌≤◌, min, true, false, not, ◌==◌}
use Rattle.std.proofs.Common.{arith}
use Rattle.std.proofs.lemmas.Bool.Decides.{nat_tests}
use Rattle.schedule.specs.Curves.{Curve}
use Rattle.tasks.specs.Arrivals.{Left}

pub joined_lawful : (a b : ℕ → ℕ) → Curve a → Curve b → Curve (λ L. min (a L) (b L))
joined_lawful a b ca cb = record {
  none = omega (arith, ca.none, cb.none);
  single = omega (arith, ca.single, cb.single);
  steps = λ L. omega (arith, ca.steps L, cb.steps L);
}

-- what is left for the present tick is 0 or 1
pub left_first : (curve left : ℕ → ℕ) → Curve curve → Left curve left → left 1 ≤ 1
left_first curve left c l = omega (arith, c.single, l.within 1 (omega arith))

-- both are open: the smaller is 1
pub open_both : (a b : ℕ) → b ≤ 1 → true ≡ (a == 1) → (b == 1) ≡ (min a b == 1)
open_both a b h e = grind (arith, nat_tests)

-- the first is shut
pub shut_first : (a b : ℕ) → a ≤ 1 → false ≡ (a == 1) → false ≡ (min a b == 1)
shut_first a b h e = grind (arith, nat_tests)

-- what is not open is at 0
pub shut_none : (n : ℕ) → n ≤ 1 → false ≡ (n == 1) → false ≡ not (n == 0)
shut_none n h e = grind (arith, nat_tests)
