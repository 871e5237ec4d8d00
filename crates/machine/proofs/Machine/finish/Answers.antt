use Rattle.std.proofs.Common.{◌<◌, ◌≤◌, refl, arith}
use Rattle.std.proofs.lemmas.Bool.{true≢false}
use Rattle.tasks.specs.Sets.{count_of}
use Rattle.parts.specs.Parts.{parts_of}
use Rattle.machine.specs.Meaning.{GoesOn}
use Rattle.tasks.proofs.Orderings.{lawful_order}
use Rattle.machine.proofs.Living.{life_goes_on, refused_life}
use Rattle.machine.proofs.States.{open_meant}
use Rattle.machine.proofs.Obeying
use Rattle.machine.proofs.Machine.finish.Goals as goal

pub returns-then-task-count-clause-life : goal.returns-then-task-count-clause-life
returns-then-task-count-clause-life g c =
    let m = c.args.self.now in
    let none : count_of m.dispatcher.layout.set ≤ c.args.task = omega (arith, c.count.ensures) in
    refused_life g.O.PriorityOrder.before g.R.ArrivalRule.curve g.R.ArrivalRule.left m _ _ (lawful_order g.met.O.PriorityOrder m.order) (g.met.R.ArrivalRule.curves m.rule)
    (Obeying.unknown_finished m.dispatcher.layout (g.O.PriorityOrder.before m.order) (g.R.ArrivalRule.curve m.rule) (g.R.ArrivalRule.left m.rule) m.dispatcher.table m.clock c.args.task none)

pub returns-in-Closed-clause-life : goal.returns-in-Closed-clause-life
returns-in-Closed-clause-life g c =
    let m = c.args.self.now in
    let known : c.args.task < count_of m.dispatcher.layout.set = omega (arith, c.count.ensures) in
    refused_life g.O.PriorityOrder.before g.R.ArrivalRule.curve g.R.ArrivalRule.left m _ _ (lawful_order g.met.O.PriorityOrder m.order) (g.met.R.ArrivalRule.curves m.rule)
    (Obeying.no_job m.dispatcher.layout (g.O.PriorityOrder.before m.order) (g.R.ArrivalRule.curve m.rule) (g.R.ArrivalRule.left m.rule) m.dispatcher.table m.clock c.args.task known c.in-Closed.is)

pub returns : goal.returns
returns g c =
    let m = c.args.self.now in
    let h = c.happen.ensures in
    let known : c.args.task < count_of m.dispatcher.layout.set = omega (arith, c.count.ensures) in
    let obeyed = Obeying.obeyed_on m.dispatcher.layout c.happen.new.self.layout h.layout _ _ _ _ _ _ (g.R.ArrivalRule.left m.rule)
    (Obeying.finished m.dispatcher.layout (g.O.PriorityOrder.before m.order) (g.R.ArrivalRule.curve m.rule) (g.R.ArrivalRule.left m.rule) m.dispatcher.table m.clock
    c.happen.new.self.table c.args.task _ known (open_meant (parts_of m.dispatcher.layout.list) _ c.in_default.not-Closed) h.others h.meaning) in
    let goes : GoesOn m _ g.R.ArrivalRule.curve = record { layout = h.layout; order = refl; curves = λ i L h. refl } in
    record {
      obeyed = obeyed;
      own = tt;
      same = goes;
      refused = λ e. absurd (true≢false e);
      life = life_goes_on g.O.PriorityOrder.before g.R.ArrivalRule.curve g.R.ArrivalRule.left m _ _ _ (lawful_order g.met.O.PriorityOrder m.order) (g.met.R.ArrivalRule.curves m.rule) goes (λ ranked. obeyed);
    }
