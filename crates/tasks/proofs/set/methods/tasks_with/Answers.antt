use Rattle.std.proofs.Common.{◌≡◌, ℕ, Bool, rules, arith, cond, ltb, get_or, length, Some, ap, ◌∙◌}
use Rattle.std.proofs.lemmas.Bool.{lt-ltb}
use Rattle.std.proofs.lemmas.List.{get_or-take, length-take-le}
use Rattle.std.proofs.lemmas.Option.{slice_get-get_or}
use borrow.Author.Tests.{tests}
use Rattle.tasks.proofs.Sets.{made_by}
use Rattle.tasks.specs.declared.set.Task.{Task}
use Rattle.tasks.proofs.set.methods.tasks_with.Goals as goal

pub returns-clause-each : goal.returns-clause-each
returns-clause-each c i h =
    let ps = c.args.periods.now in
    let n = length ps in
    let filled = c.from_fn.result in
    let task : ℕ → Task = λ j. record { period = get_or ps j 0; cost = get_or c.args.costs.now j 0 } in
    let unread : Task = record { period = 1; cost = 0 } in
    let made : get_or filled i unread ≡ cond (ltb i n) (task i) unread =
    made_by (λ j. cond (ltb j n) (task j) unread) _ filled 32 c.from_fn.ensures.items (λ j y q k. search (rules, tests)) i unread (omega (arith, c.requires.few)) in
    slice_get-get_or _ i unread (omega (arith, length-take-le n filled (omega (arith, c.requires.few, c.from_fn.ensures.items.long))))
    ∙ ap (λ (t : Task). Some t) (get_or-take n filled i unread h ∙ made ∙ ap (λ (b : Bool). cond b (task i) unread) (lt-ltb i n h))
