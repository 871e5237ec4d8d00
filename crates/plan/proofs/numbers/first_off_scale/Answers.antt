use Rattle.std.proofs.Common.{not, ◌||◌, rules}
use borrow.Author.Tests.{tests}
use Rattle.tasks.specs.Sets.{on_scale}
use Rattle.plan.proofs.Places.{position_first}
use Rattle.plan.proofs.numbers.first_off_scale.Goals as goal

pub returns : goal.returns
returns c = position_first (λ p. not (on_scale p.cost) || not (on_scale p.window)) c.args.parts.now _ _ c.position.ensures.ran (cc) (λ x b q k. search (rules, tests))
