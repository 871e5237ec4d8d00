use Rattle.std.proofs.Common.{◌≡◌, ℕ, ◌≤◌, length, get_or, take, arith}
use Rattle.std.proofs.lemmas.List.{length-take-le}
use Rattle.tasks.proofs.Sets.{scale, step, within, counted_from, all_known, rises_known}
use Rattle.tasks.specs.declared.set.Task.{Task}
use Rattle.tasks.proofs.set.TaskSet.new.Goals as goal

pub invariant_of-result : goal.invariant_of-result
invariant_of-result c =
    let ps = c.args.periods.now in
    let cs = c.args.costs.now in
    let n = length ps in
    let counted = counted_from ps cs c.if-is_miscounted.ensures in
    let on = c.in_default.ensures in
    let task : ℕ → Task = λ i. record { period = get_or ps i 0; cost = get_or cs i 0 } in
    let own = take n c.tasks_with.result in
    let long : length own ≡ n = length-take-le n c.tasks_with.result (omega (arith, counted, c.tasks_with.ensures.whole)) in
    let all = all_known own n task long c.tasks_with.ensures.each in
    record {
      some = counted.0;
      few = counted.1;
      wide = c.tasks_with.ensures.whole;
      lasting = all (λ t. t.cost ≤ t.period) (within ps cs c.in_default-first_overfull.ensures);
      working = all (λ t. 1 ≤ t.cost) (λ i h. (scale ps cs on i h).2);
      scaled = all (λ t. t.period ≤ 100000) (λ i h. (scale ps cs on i h).1);
      rising = rises_known own n task long c.tasks_with.ensures.each (λ t. t.period) (step ps cs c.in_default-first_falling.ensures);
    }
