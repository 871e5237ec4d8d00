use Rattle.std.proofs.Common.{ℕ, sym, arith}
use Rattle.schedule.specs.Curves.{Curve}
use Rattle.schedule.specs.Layout.{System}
use Rattle.tasks.specs.Arrivals.{as_long}
use Rattle.tasks.specs.Numbers.{as_numbered}
use Rattle.parts.specs.Parts.{parts_of}
use Rattle.plan.specs.Systems.{system}
use Rattle.plan.proofs.Demand.{short_on, found, not_found}
use Rattle.plan.proofs.response.response_time.Given as given
use Rattle.plan.proofs.response.response_time.Goals as goal

curve_laws : (g : given.Over) (rule : g.row.R.Denot) (i : ℕ) → Curve (g.R.ArrivalRule.curve rule (as_numbered i))
curve_laws g rule i = g.met.R.ArrivalRule.curves rule (as_numbered i) (omega arith)

pub returns-then-sum-length : goal.returns-then-sum-length
returns-then-sum-length g c =
    let sys : ℕ → System = λ m. system c.args.set.now m (parts_of c.args.parts.now) (g.O.PriorityOrder.before c.args.order.now) (g.R.ArrivalRule.curve c.args.rule.now) in
    let at = λ (m : ℕ). found (sys m) c.args.part (curve_laws g c.args.rule.now) (as_long c.args.limit) c.loop-length.length
    c.loop-length.invariant.0 (omega arith) (omega arith) c.loop-length.invariant.2 in
    record { value = λ m. sym (at m).0; least = λ m. (at m).1 }

pub loop-length-preserved : goal.loop-length-preserved
loop-length-preserved g c =
    let sys = system c.args.set.now 0 (parts_of c.args.parts.now) (g.O.PriorityOrder.before c.args.order.now) (g.R.ArrivalRule.curve c.args.rule.now) in
    let sum = c.needed-sum.ensures in
    let short = short_on sys c.args.part (curve_laws g c.args.rule.now) c.loop-length.length c.loop-length.invariant.2 (omega (arith, sum)) in
    (omega arith, c.loop-length.invariant.1, λ u some h. short u some (omega (arith, sum)))

pub returns : goal.returns
returns g c =
    let sys : ℕ → System = λ m. system c.args.set.now m (parts_of c.args.parts.now) (g.O.PriorityOrder.before c.args.order.now) (g.R.ArrivalRule.curve c.args.rule.now) in
    let at = λ (m : ℕ). not_found (sys m) c.args.part (curve_laws g c.args.rule.now) (as_long c.args.limit) c.loop-length.length (omega arith) c.loop-length.invariant.2 in
    record { value = λ m. sym (at m).0; least = λ m. (at m).1 }
