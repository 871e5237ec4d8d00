use Rattle.std.proofs.Common.{◌<◌, List, map, take, sym, refl, ap, ◌∙◌, arith}
use Rattle.schedule.specs.Sameness.{Same}
use Rattle.schedule.specs.TickRule.{started}
use Rattle.tasks.specs.Numbers.{as_numbered}
use Rattle.tasks.specs.Sets.{count_of}
use Rattle.parts.specs.Parts.{parts_of}
use Rattle.machine.specs.declared.jobs.Job.{Job}
use Rattle.machine.specs.Jobs.{meant}
use Rattle.machine.specs.Meaning.{laid_system}
use Rattle.machine.proofs.Living.{born, verdict_kept}
use Rattle.machine.proofs.States.{closed_all, all_closed}
use Rattle.machine.proofs.Machine.restart.Goals as goal

pub invariant_of-self : goal.invariant_of-self
invariant_of-self g c = all_closed c.args.self.now.dispatcher.layout c.closed-self.result c.closed-self.ensures

pub returns : goal.returns
returns g c =
    let l = c.args.self.now.dispatcher.layout in
    let before = g.O.PriorityOrder.before c.args.self.now.order in
    let curve = g.R.ArrivalRule.curve c.fresh.new.self in
    let state : Same (laid_system l before curve) _ (started (laid_system l before curve)) = record {
      clock = refl;
      room = λ i L h o. let low : as_numbered i < 32 = omega arith in c.fresh.ensures.1 (as_numbered i) L low o ∙ sym (c.fresh.ensures.0 (as_numbered i) L low);
      jobs = ap (λ (js : List Job). map (meant (parts_of l.list)) (take (count_of l.set) js)) c.closed-self.ensures ∙ closed_all (parts_of l.list) (count_of l.set) 32 l.set.few;
    } in
    record {
      same = record { layout = refl; order = refl; curves = c.fresh.ensures.0 };
      state = state;
      lives = λ ranked. (ranked, born _ _ state);
      accepted = λ e. sym (verdict_kept l l before before (g.R.ArrivalRule.curve c.args.self.now.rule) curve refl refl c.fresh.ensures.0) ∙ e;
    }
