use Rattle.std.proofs.Common.{ap, ◌∙◌, rules}
use borrow.Author.Tests.{tests}
use Rattle.tasks.proofs.Searches.{find_first}
use Rattle.tasks.specs.Searches.{first_where}
use Rattle.parts.specs.Parts.{parts_of}
use Rattle.plan.specs.Checks.{miscount}
use Rattle.plan.proofs.numbers.first_miscount.Goals as goal

pub returns : goal.returns
returns c =
    find_first (miscount c.args.set.now (parts_of c.args.list.now)) c.count.result _ _ c.find.ensures.ran (λ i q k. search (rules, tests)) (λ i q k. search (rules, tests))
    ∙ ap (first_where (miscount c.args.set.now (parts_of c.args.list.now))) c.count.ensures
