use Rattle.std.proofs.Common.{rules, arith}
use borrow.Author.Tests.{tests}
use Rattle.plan.specs.Checks.{part_at, same_place}
use Rattle.plan.proofs.Places.{any_first}
use Rattle.plan.proofs.numbers.is_twin.Goals as goal

pub returns : goal.returns
returns c = any_first (λ p. same_place p (part_at c.args.parts.now c.args.index)) c.args.parts.now c.args.index _ _ c.any.ensures.ran (cc) (omega arith) (λ x b q k. search (rules, tests))
