use Rattle.std.proofs.Common.{ap, ◌∙◌}
use lib.Count.{ones}
use Rattle.machine.proofs.Telling.{word_counted}
use Rattle.machine.proofs.Machine.ready_count.Goals as goal

pub returns-clause-count : goal.returns-clause-count
returns-clause-count g c =
    let m = c.args.self.now in
    ap ones c.in_ok-word_of.ensures.word
    ∙ word_counted m.dispatcher.layout m.dispatcher.table c.args.processor (g.O.PriorityOrder.before m.order) (g.R.ArrivalRule.curve m.rule) (g.R.ArrivalRule.left m.rule) m.clock
