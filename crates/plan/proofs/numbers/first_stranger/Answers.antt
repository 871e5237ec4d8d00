use Rattle.std.proofs.Common.{leb, ◌||◌, rules}
use borrow.Author.Tests.{tests}
use Rattle.tasks.specs.Sets.{count_of}
use Rattle.plan.proofs.Places.{position_first}
use Rattle.plan.proofs.numbers.first_stranger.Goals as goal

pub returns : goal.returns
returns c = position_first (λ p. leb (count_of c.args.set.now) p.task || leb c.args.processors p.processor) c.args.parts.now _ _ c.position.ensures.ran (cc) (λ x b q k. search (rules, tests))
