use Rattle.std.proofs.Common.{◌≡◌, arith, rules}
use Rattle.std.specs.List.{sum_by}
use Rattle.std.proofs.lemmas.Iterator.{YieldsList-from_slice, YieldsList-from_map}
use Rattle.std.proofs.lemmas.Iterator.Adapters.{fits_from_length, at_most_from_yields_List}
use Rattle.std.proofs.lemmas.Iterator.Consumers.{sum_by_from_yields_List}
use borrow.Author.Tests.{tests}
use Rattle.parts.proofs.Listing.{listed_length}
use Rattle.parts.specs.Parts.{parts_of}
use Rattle.plan.specs.Responses.{share}
use Rattle.plan.specs.Workloads.{system_of}
use Rattle.plan.proofs.Totals.{total_is_sum}
use Rattle.plan.proofs.response.Workload.needed.Goals as goal

-- 64 parts of a cost below 2^32 at most 1,000,000 times are far from wrapping
pub sum-ahead-requires-clause-fits : goal.sum-ahead-requires-clause-fits
sum-ahead-requires-clause-fits g c =
    let list = c.args.self.now.parts.now in
    fits_from_length _ _ 64 18446744073709551616 (at_most_from_yields_List (YieldsList-from_slice (parts_of list) cc) (omega (arith, listed_length list, list.few)))
    c.map.ensures.closure (omega arith) (λ x r q k. search (rules, tests))

pub overflow_add-result : goal.overflow_add-result
overflow_add-result g c =
    let list = c.args.self.now.parts.now in
    let run = c.sum-ahead.ensures.runs tt in
    let low = fits_from_length _ _ 64 274877906944000001 (at_most_from_yields_List (YieldsList-from_slice (parts_of list) cc) (omega (arith, listed_length list, list.few)))
    c.map.ensures.closure (omega arith) (λ x r q k. search (rules, tests)) run.0 run.0.seen run.1 in
    omega (arith, low, run.3)

pub returns : goal.returns
returns g c =
    let ps = parts_of c.args.self.now.parts.now in
    let own = share (system_of c.args.self.now g.O.PriorityOrder.before g.R.ArrivalRule.curve) c.args.self.now.part c.args.length in
    let sum : c.sum-ahead.result ≡ sum_by own ps = sum_by_from_yields_List own ps c.map.result c.sum-ahead.result c.sum-ahead.ensures.ran
    (YieldsList-from_map _ own (YieldsList-from_slice ps cc) c.map.ensures.closure (λ x r q k. search (rules, tests))) in
    omega (arith, sum, total_is_sum own ps)
