use Rattle.std.proofs.Common.{rules}
use Rattle.std.specs.Prelude.{nat_lt}
use borrow.Author.Tests.{tests}
use Rattle.tasks.proofs.Searches.{first_pair}
use Rattle.tasks.proofs.set.methods.first_overfull.Goals as goal

pub returns : goal.returns
returns c =
    first_pair (λ p c. nat_lt p c) c.args.periods.now c.args.costs.now c.position.new.self _ c.position.ensures.ran (cc) (cc) c.requires
    (λ x q k. search (rules, tests)) (λ x q k. search (rules, tests))
