use Rattle.std.proofs.Common.{◌≡◌, ℕ, sym, ap, ◌∙◌, arith}
use Rattle.tasks.specs.Arrivals.{as_long}
use Rattle.tasks.specs.Sets.{period_of}
use Rattle.tasks.proofs.Sets.{period_scaled}
use Rattle.parts.specs.Parts.{parts_of}
use Rattle.plan.specs.Responses.{response_within}
use Rattle.plan.specs.Systems.{system}
use Rattle.spa2.specs.Placing.{tasks_of}
use Rattle.spa2.proofs.Windowing.{window_follows, least_some, asked_later}
use Rattle.spa2.proofs.windows.part_window.Goals as goal

pub returns-then-is_listed : goal.returns-then-is_listed
returns-then-is_listed g c =
    let set = c.args.set.now in
    let p = c.args.part in
    let sys = system set 0 (parts_of c.args.parts.now) (g.O.PriorityOrder.before c.args.order.now) (g.R.ArrivalRule.curve c.args.rule.now) in
    let told = asked_later _ _ _ _ _ _ c.len.ensures c.as_slice.ensures c.is_listed.ensures in
    let period : c.period-period.result ≡ period_of set p.task = c.period-period.ensures ∙ ap (λ (i : ℕ). period_of set i) c.from-task.ensures in
    let long : as_long c.period-period.result ≡ period_of set p.task = omega (arith, period, (period_scaled set p.task).1) in
    window_follows (tasks_of set) (response_within sys) _ p _ _ (sym told ∙ c.if-is_listed.true)
    (c.response_time.ensures.value 0 ∙ ap (λ (L : ℕ). response_within sys p L) long) (least_some sys p _ _ (c.response_time.ensures.least 0))
