use Rattle.std.proofs.Common.{◌≡◌, ltb, ap, ◌∙◌, arith}
use Rattle.schedule.specs.Layout.{span_of}
use Rattle.tasks.specs.Numbers.{as_numbered, as_long}
use Rattle.parts.specs.Parts.{parts_of}
use Rattle.plan.proofs.Passing.{passing}
use Rattle.plan.proofs.Spans.{span_bound}
use Rattle.plan.proofs.candidate.Candidate.is_overlapping.Goals as goal

pub returns : goal.returns
returns g c =
    let plan = c.args.self.now in
    let ps = parts_of plan.list.now in
    let bound = span_bound plan.set.now plan.processors ps (passing plan.set.now plan.processors ps plan.passed) c.args.task in
    let exact : as_long c.sums.result.window ≡ span_of ps c.args.task = omega (arith, bound, c.sums.ensures.window) in
    ap (ltb 1) (c.curve_at.ensures ∙ ap (g.R.ArrivalRule.curve plan.rule.now (as_numbered c.args.task)) exact)
