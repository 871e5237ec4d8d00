use Rattle.std.proofs.lemmas.Result.{IfOk-weaker}
use Rattle.machine.proofs.Telling.{word_tells}
use Rattle.machine.proofs.Machine.ready_word.Goals as goal

pub returns-clause-word : goal.returns-clause-word
returns-clause-word g c = λ ranked.
    let m = c.args.self.now in
    IfOk-weaker c.word_of.result _ _
    (word_tells m.dispatcher.layout m.dispatcher.table c.args.processor (g.O.PriorityOrder.before m.order) (g.R.ArrivalRule.curve m.rule) (g.R.ArrivalRule.left m.rule) m.clock ranked)
    c.word_of.ensures.word
