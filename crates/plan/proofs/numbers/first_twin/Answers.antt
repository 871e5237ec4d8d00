use Rattle.std.proofs.Common.{length, rules}
use borrow.Author.Tests.{tests}
use Rattle.tasks.proofs.Searches.{find_first}
use Rattle.plan.specs.Checks.{twin}
use Rattle.plan.proofs.numbers.first_twin.Goals as goal

pub returns : goal.returns
returns c = find_first (twin c.args.parts.now) (length c.args.parts.now) _ _ c.find.ensures.ran (λ i q k. search (rules, tests)) (λ i q k. search (rules, tests))
