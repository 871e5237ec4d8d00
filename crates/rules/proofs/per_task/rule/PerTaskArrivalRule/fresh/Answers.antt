use Rattle.std.proofs.Common.{ℕ, ◌<◌, ◌∙◌, arith}
use Rattle.std.proofs.lemmas.List.{length-set}
use Rattle.rules.proofs.Regulators.{Filling, so_far_more, all_changed}
use Rattle.rules.proofs.per_task.rule.PerTaskArrivalRule.fresh.Goals as goal

pub loop-regulator-preserved : goal.loop-regulator-preserved
loop-regulator-preserved g c =
    let l = c.loop-regulator in
    let r = g.G.Regulator in (
      length-set l.regulator-items l.regulator-index c.fill.new.self ∙ l.invariant.0,
      so_far_more r.curve r.left Filling l.regulator-index c.args.self.now.regulators l.regulator-items c.regulator-item.result c.fill.new.self
          (omega arith) l.invariant.1 c.fill.ensures,
    )

pub returns : goal.returns
returns g c =
    let l = c.loop-regulator in
    let r = g.G.Regulator in
    let rule = c.args.self.now in
    let each = λ (i : ℕ) (h : i < 32).
    all_changed r.curve r.left Filling l.regulator-index rule.regulators l.regulator-items (omega (arith, rule.wide)) l.invariant.1 i (omega (arith, rule.wide)) in
    ((λ i L h. (each i h).0 L), λ i L h n. (each i h).1 L n)
