use Rattle.std.proofs.Common.{◌<◌, List, map, take, sym, refl, ap, ◌∙◌, arith}
use Rattle.schedule.specs.Sameness.{Same}
use Rattle.schedule.specs.TickRule.{started}
use Rattle.tasks.specs.Arrivals.{SameCurves}
use Rattle.tasks.specs.Numbers.{as_numbered}
use Rattle.tasks.specs.Sets.{count_of}
use Rattle.parts.specs.Parts.{parts_of}
use Rattle.machine.specs.declared.jobs.Job.{Job}
use Rattle.machine.specs.Jobs.{meant}
use Rattle.machine.specs.Meaning.{laid_system}
use Rattle.machine.proofs.Living.{born, same_plan}
use Rattle.machine.proofs.States.{closed_all, all_closed}
use Rattle.machine.proofs.Machine.start.Goals as goal

pub invariant_of-result : goal.invariant_of-result
invariant_of-result g c = all_closed c.new-layout.result c.closed.result c.closed.ensures

pub returns : goal.returns
returns g c =
    let l = c.new-layout.result in
    let same = c.carried-processors.ensures.same in
    let made = c.new-layout.ensures.same in
    let curves : SameCurves (g.R.ArrivalRule.curve c.args.plan.rule) (g.R.ArrivalRule.curve c.fresh.new.self) =
    λ i L h. c.fresh.ensures.0 i L h ∙ ap (λ r. g.R.ArrivalRule.curve r i L) same.4 in
    let state : Same (laid_system l (g.O.PriorityOrder.before c.carried-processors.result.order) (g.R.ArrivalRule.curve c.fresh.new.self)) _
    (started (laid_system l (g.O.PriorityOrder.before c.carried-processors.result.order) (g.R.ArrivalRule.curve c.fresh.new.self))) = record {
      clock = refl;
      room = λ i L h o. let low : as_numbered i < 32 = omega arith in c.fresh.ensures.1 (as_numbered i) L low o ∙ sym (c.fresh.ensures.0 (as_numbered i) L low);
      jobs = ap (λ (js : List Job). map (meant (parts_of l.list)) (take (count_of l.set) js)) c.closed.ensures ∙ closed_all (parts_of l.list) (count_of l.set) 32 l.set.few;
    } in
    record {
      carried = (made.0 ∙ same.0, made.1 ∙ same.1, made.2 ∙ same.2, same.3);
      curves = curves;
      ranked = c.new-layout.ensures.ranked;
      state = state;
      lives = (c.new-layout.ensures.ranked, born _ _ state);
      accepted = λ e.
          sym (same_plan c.args.plan.set l.set c.args.plan.processors l.processors c.args.plan.list l.list
          (g.O.PriorityOrder.before c.args.plan.order) (g.O.PriorityOrder.before c.carried-processors.result.order) _ _
          (made.0 ∙ same.0) (made.1 ∙ same.1) (made.2 ∙ same.2) (ap g.O.PriorityOrder.before same.3) curves) ∙ e;
    }
