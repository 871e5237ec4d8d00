use Rattle.std.proofs.Common.{◌≡◌, ℕ, ◌≤◌, get_or, sym, ◌∙◌, rules}
use Rattle.std.proofs.iter.Serving.{serving}
use Rattle.rules.proofs.Buckets.{no_fault}
use Rattle.rules.proofs.Regulators.{of_calls_made}
use Rattle.rules.specs.Tokens.{full_curve, tokens_curve, tokens_left}
use Rattle.rules.proofs.bucket.rule.PerTask+Tokens.new.Goals as goal

pub from_fn-requires : goal.from_fn-requires
from_fn-requires c =
    let none = no_fault c.args.sizes.now c.args.refills.now c.if-is_miscounted.ensures c.in_default.ensures in
    grind serving

pub returns-clause-made : goal.returns-clause-made
returns-clause-made c =
    let sizes = c.args.sizes.now in
    let refills = c.args.refills.now in
    let Told = λ (i : ℕ) (curve left : ℕ → ℕ).
    (L : ℕ) → (curve L ≡ full_curve (get_or sizes i 1) (get_or refills i 1) L) × (1 ≤ L → left L ≡ full_curve (get_or sizes i 1) (get_or refills i 1) L) in
    let full = of_calls_made tokens_curve tokens_left Told (λ i q r h c. search rules) c.from_fn.ensures.items in (
      no_fault sizes refills c.if-is_miscounted.ensures c.in_default.ensures,
      rw c.from.ensures (λ i L h. ((full i h L).0, λ l. (full i h L).1 l ∙ sym ((full i h L).0))),
    )
