use Rattle.std.proofs.Common.{◌≡◌, ℕ, ◌+◌, ◌≤◌, List, ◌++◌, length, take, drop, refl, ap, ◌∙◌, arith}
use Rattle.std.proofs.lemmas.List.{take_at, drop_at, length-take-le}
use Rattle.std.proofs.lemmas.Bool.{true≢false}
use Rattle.schedule.specs.TickRule.{tick, ran}
use Rattle.machine.specs.Meaning.{GoesOn, Obeyed, Ranked, system_of, state_of, table_state}
use Rattle.tasks.proofs.Orderings.{lawful_order}
use Rattle.machine.proofs.Living.{life_goes_on, refused_life}
use Rattle.machine.proofs.Ageing.{layout_passed}
use Rattle.machine.proofs.Obeying.{obeyed_on}
use Rattle.machine.proofs.Ticking.{worn_out, cramped, tick_obeyed}
use Rattle.machine.proofs.Machine.tick.Goals as goal

pub returns-then-self-ge-LAST_CLOCK-clause-life : goal.returns-then-self-ge-LAST_CLOCK-clause-life
returns-then-self-ge-LAST_CLOCK-clause-life g c =
    let m = c.args.self.now in
    refused_life g.O.PriorityOrder.before g.R.ArrivalRule.curve g.R.ArrivalRule.left m _ _ (lawful_order g.met.O.PriorityOrder m.order) (g.met.R.ArrivalRule.curves m.rule)
    (worn_out m.dispatcher.layout (g.O.PriorityOrder.before m.order) (g.R.ArrivalRule.curve m.rule) (g.R.ArrivalRule.left m.rule) m.dispatcher.table m.clock (length c.args.answer.now) c.if-self-ge-LAST_CLOCK.true)

pub returns-then-answer-processors-clause-life : goal.returns-then-answer-processors-clause-life
returns-then-answer-processors-clause-life g c =
    let m = c.args.self.now in
    refused_life g.O.PriorityOrder.before g.R.ArrivalRule.curve g.R.ArrivalRule.left m _ _ (lawful_order g.met.O.PriorityOrder m.order) (g.met.R.ArrivalRule.curves m.rule)
    (cramped m.dispatcher.layout (g.O.PriorityOrder.before m.order) (g.R.ArrivalRule.curve m.rule) (g.R.ArrivalRule.left m.rule) m.dispatcher.table m.clock (length c.args.answer.now) c.if-self-ge-LAST_CLOCK.false c.if-answer-processors.true)

pub returns : goal.returns
returns g c =
    let m = c.args.self.now in
    let l = m.dispatcher.layout in
    let running = c.running_tasks-running.result in
    let copied : List ℕ = c.copy_from_slice.new.self in
    let after = c.grow_older.new.self in
    let few : l.processors ≤ 8 = (layout_passed l).few_procs in
    let said : copied ≡ take l.processors running = c.copy_from_slice.ensures.after in
    let long : length copied ≡ l.processors = ap length said ∙ length-take-le l.processors running (omega (arith, c.running_tasks-running.ensures.whole)) in
    let obeyed : Ranked m g.O.PriorityOrder.before → Obeyed (system_of m g.O.PriorityOrder.before g.R.ArrivalRule.curve) (state_of m g.R.ArrivalRule.left) (tick (length c.args.answer.now))
    (ran (take l.processors (copied ++ drop l.processors c.args.answer.now))) (table_state after.layout after.table (m.clock + 1) (g.R.ArrivalRule.left c.advance.new.self)) = λ ranked.
    obeyed_on l after.layout c.grow_older.ensures.layout _ _ _ _ _ _ (g.R.ArrivalRule.left c.advance.new.self)
    (tick_obeyed l (g.O.PriorityOrder.before m.order) (g.R.ArrivalRule.curve m.rule) (g.R.ArrivalRule.left m.rule) m.dispatcher.table m.clock
    running c.running_tasks-running.ensures.value ranked m.dispatcher.fitting
    after.table (g.R.ArrivalRule.left c.advance.new.self) (length c.args.answer.now) _ (omega arith) (omega arith) (omega (arith, c.running_tasks-running.ensures.whole))
    (take_at copied (drop l.processors c.args.answer.now) l.processors long ∙ said)
    m.dispatcher.whole after.whole c.grow_older.ensures.aged c.advance.ensures.1) in
    let goes : GoesOn m _ g.R.ArrivalRule.curve = record { layout = c.grow_older.ensures.layout; order = refl; curves = c.advance.ensures.0 } in
    record {
      obeyed = obeyed;
      own = tt;
      same = goes;
      rest = drop_at copied (drop l.processors c.args.answer.now) l.processors long;
      refused = λ e. absurd (true≢false e);
      life = life_goes_on g.O.PriorityOrder.before g.R.ArrivalRule.curve g.R.ArrivalRule.left m _ _ _ (lawful_order g.met.O.PriorityOrder m.order) (g.met.R.ArrivalRule.curves m.rule) goes obeyed;
    }
