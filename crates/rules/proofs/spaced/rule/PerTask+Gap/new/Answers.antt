use Rattle.std.proofs.Common.{◌≡◌, ℕ, ◌<◌, rules, sym, ◌∙◌}
use Rattle.tasks.specs.Numbers.{rounded_up}
use Rattle.tasks.specs.Sets.{period_of}
use Rattle.rules.specs.Spacing.{gap_curve, gap_left, spaced_curve, spaced_left}
use Rattle.rules.proofs.Regulators.{of_calls_made}
use Rattle.rules.proofs.spaced.rule.PerTask+Gap.new.Goals as goal

-- each gap is made of the period of its task, and waits for nothing
each : (c : goal.After-from) (i L : ℕ) → i < 32 →
    (spaced_curve c.from.result i L ≡ rounded_up L (period_of c.args.set.now i)) × (spaced_left c.from.result i L ≡ rounded_up L (period_of c.args.set.now i))
each c i L h =
    let set = c.args.set.now in
    let Told = λ (i : ℕ) (curve left : ℕ → ℕ). (curve L ≡ rounded_up L (period_of set i)) × (left L ≡ rounded_up L (period_of set i)) in
    rw c.from.ensures (of_calls_made gap_curve gap_left Told (λ i q r h c. search rules) c.from_fn.ensures.items i h)

pub returns-clause-curves : goal.returns-clause-curves
returns-clause-curves c i L h = (each c i L h).0

pub returns-clause-fresh : goal.returns-clause-fresh
returns-clause-fresh c i L h = (each c i L h).1 ∙ sym ((each c i L h).0)
