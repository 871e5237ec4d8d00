use Rattle.std.proofs.Common.{ℕ, rules, ◌∙◌, arith}
use Rattle.std.proofs.lemmas.Iterator.{YieldsList-from_range, YieldsList-from_map}
use Rattle.std.proofs.lemmas.Iterator.Adapters.{fits_from_length, at_most_from_yields_List}
use Rattle.std.proofs.lemmas.Iterator.Consumers.{sum_by_from_yields_List}
use Rattle.std.proofs.lemmas.List.FromFn.{length-range_with_len}
use Rattle.std.specs.List.{range_with_len}
use borrow.Author.Tests.{tests}
use Rattle.schedule.specs.Lists.{one_if}
use Rattle.tasks.proofs.Orderings.{lawful_order, all_ranked, sum_below}
use Rattle.tasks.specs.Ranks.{precedes}
use Rattle.tasks.specs.Sets.{count_of}
use Rattle.tasks.proofs.ranking.rank.Goals as goal

pub sum-requires-clause-fits : goal.sum-requires-clause-fits
sum-requires-clause-fits g c =
    let n = count_of c.args.set.now in
    fits_from_length _ _ 32 _ (at_most_from_yields_List (YieldsList-from_range {s = c.map.result.iter} 0 n n (cc) (omega arith))
    (omega (arith, length-range_with_len 0 n, c.args.set.now.few))) c.map.ensures.closure (omega arith) (λ x r q k. search (rules, tests))

pub returns : goal.returns
returns g c =
    let set = c.args.set.now in
    let before = g.O.PriorityOrder.before c.args.order.now in
    let n = count_of set in
    let own : ℕ → ℕ = λ j. one_if (precedes before set j c.args.task) in
    record {
      value = sum_by_from_yields_List own (range_with_len 0 n) c.map.result c.sum.result c.sum.ensures.ran
          (YieldsList-from_map _ own (YieldsList-from_range {s = c.map.result.iter} 0 n n (cc) (omega arith)) c.map.ensures.closure (λ x r q k. search (rules, tests)))
          ∙ sum_below own n;
      ranked = all_ranked set before (lawful_order g.met.O.PriorityOrder c.args.order.now);
    }
