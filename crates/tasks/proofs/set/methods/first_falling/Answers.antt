use Rattle.std.proofs.Common.{length, rules, arith}
use Rattle.std.proofs.lemmas.Bool.Decides.{nat_tests}
use borrow.Author.Tests.{tests}
use Rattle.tasks.proofs.Searches.{find_first_from}
use Rattle.tasks.specs.Sets.{falls}
use Rattle.tasks.proofs.set.methods.first_falling.Goals as goal

pub returns : goal.returns
returns c =
    find_first_from (falls c.args.periods.now) 1 (length c.args.periods.now) _ _ c.find.ensures.ran (λ i q k. search (rules, tests)) (λ i q k. search (rules, tests))
    (λ i h. grind (arith, nat_tests))
