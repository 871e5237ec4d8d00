use Rattle.std.proofs.Common.{◌≢◌, sym, ◌∙◌, arith}
use Rattle.plan.specs.Checks.{part_at}
use Rattle.plan.proofs.Totals.{task_more_in, task_more_out}
use Rattle.plan.proofs.numbers.sums.Goals as goal
use Rattle.plan.proofs.numbers.sums.Goals.{then-from-task, else-from-task}

pub loop-part-preserved : goal.loop-part-preserved
loop-part-preserved c =
    let ps = c.as_slice-part-items.result.now in
    let k = c.loop-part.part-index in
    let inv = c.loop-part.invariant in
    elim c.if-from-task.branch [
      | then-from-task w ↦
          let own = sym c.from.ensures ∙ w.if-from-task.true in
          rw w.sums-is (record {
            listed = inv.listed;
            cost = omega (arith, task_more_in (λ p. p.cost) ps c.args.task k c.loop-part-test.true own, inv.cost);
            window = omega (arith, task_more_in (λ p. p.window) ps c.args.task k c.loop-part-test.true own, inv.window);
            low_cost = omega (arith, inv.low_cost);
            low_window = omega (arith, inv.low_window);
          })
      | else-from-task w ↦
          let other : (part_at ps k).task ≢ c.args.task = λ e. w.if-from-task.false (c.from.ensures ∙ e) in
          rw w.sums-is (record {
            listed = inv.listed;
            cost = omega (arith, task_more_out (λ p. p.cost) ps c.args.task k c.loop-part-test.true other, inv.cost);
            window = omega (arith, task_more_out (λ p. p.window) ps c.args.task k c.loop-part-test.true other, inv.window);
            low_cost = omega (arith, inv.low_cost);
            low_window = omega (arith, inv.low_window);
          })
    ]
