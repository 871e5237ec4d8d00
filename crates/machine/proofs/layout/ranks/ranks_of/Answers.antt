use Rattle.std.proofs.Common.{◌<◌, arith}
use Rattle.tasks.proofs.Orderings.{lawful_order, all_ranked}
use Rattle.machine.proofs.layout.ranks.ranks_of.Goals as goal

pub returns-clause-low : goal.returns-clause-low
returns-clause-low g c = λ i h.
    let set = c.args.set.now in
    let ranked = all_ranked set (g.O.PriorityOrder.before c.args.order.now) (lawful_order g.met.O.PriorityOrder c.args.order.now) in
    let done : i < c.loop-task.task = omega (arith, c.count-task-end.ensures) in
    omega (arith, c.loop-task.invariant.2 i done, ranked.within i h, set.few)
