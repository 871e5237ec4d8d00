use Rattle.std.proofs.Common.{ℕ, ◌+◌, ◌-◌, rules, refl, ap, ◌∙◌, arith}
use Rattle.std.proofs.lemmas.Iterator.{YieldsList-from_range, YieldsList-from_map}
use Rattle.std.proofs.lemmas.Iterator.Adapters.{fits_from_length, at_most_from_yields_List}
use Rattle.std.proofs.lemmas.Iterator.Consumers.{sum_from_yields_List}
use Rattle.std.proofs.lemmas.List.FromFn.{length-range_with_len}
use borrow.Author.Tests.{tests}
use Rattle.spa2.specs.Placing.{tasks_of, load_at, loads_from, followers}
use Rattle.spa2.proofs.Steps.{loads_sum}
use Rattle.spa2.proofs.state.beforehand.followers_load.Goals as goal

pub sum-requires-clause-fits : goal.sum-requires-clause-fits
sum-requires-clause-fits c =
    let n = c.count.result - (c.from.result + 1) in
    fits_from_length _ _ 32 _ (at_most_from_yields_List (YieldsList-from_range (c.from.result + 1) c.count.result n c.map.ensures.source refl)
    (omega (arith, length-range_with_len (c.from.result + 1) n, c.args.set.now.few))) c.map.ensures.closure (omega arith) (λ x r q k. search (rules, tests))

pub returns : goal.returns
returns c =
    let t = tasks_of c.args.set.now in
    let n = c.count.result - (c.from.result + 1) in
    sum_from_yields_List _ c.sum.result c.sum.ensures.ran
    (YieldsList-from_map _ (load_at t) (YieldsList-from_range (c.from.result + 1) c.count.result n c.map.ensures.source refl) c.map.ensures.closure (λ x r q k. search (rules, tests)))
    ∙ (loads_sum t (c.from.result + 1) n
    ∙ (ap (λ (k : ℕ). loads_from t (c.from.result + 1) (k - (c.from.result + 1))) c.count.ensures ∙ ap (λ (i : ℕ). followers t i) c.from.ensures))
