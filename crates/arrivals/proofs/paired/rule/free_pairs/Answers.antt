use Rattle.std.proofs.Common.{◌≡◌, ℕ, zero, suc, ◌<◌, replicate, arith}
use Rattle.rules.specs.Regulators.{of_task}
use Rattle.arrivals.specs.Pairs.{pair_curve, pair_left}
use Rattle.arrivals.specs.declared.paired.Pair.{Pair}
use Rattle.arrivals.proofs.paired.rule.free_pairs.Goals as goal

all_free : (p : Pair) → ((L : ℕ) → pair_left p L ≡ pair_curve p L) → (n i L : ℕ) → i < n →
    of_task pair_left (replicate n p) i L ≡ of_task pair_curve (replicate n p) i L
all_free p free zero i L h = absurd (omega arith)
all_free p free (suc n) zero L h = free L
all_free p free (suc n) (suc i) L h = all_free p free n i L (omega arith)

pub returns : goal.returns
returns c = record {
  fresh = λ i L h. rw c.from.ensures (all_free c.new.result c.new.ensures 32 i L h);
  not_subadditive = rw c.from.ensures (λ h. omega (arith, h 3 7));
}
