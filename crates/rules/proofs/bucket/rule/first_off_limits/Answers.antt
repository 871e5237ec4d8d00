use Rattle.std.proofs.Common.{rules}
use Rattle.std.specs.Prelude.{not, ◌||◌, ◌&&◌, nat_le}
use borrow.Author.Tests.{tests}
use Rattle.tasks.proofs.Searches.{first_pair}
use Rattle.tasks.specs.Sets.{on_scale}
use Rattle.rules.proofs.bucket.rule.first_off_limits.Goals as goal

pub returns : goal.returns
returns c =
    first_pair (λ s r. not (nat_le 1 s && nat_le s 1000) || not (on_scale r)) c.args.sizes.now c.args.refills.now c.position.new.self _ c.position.ensures.ran (cc) (cc) c.requires
    (λ x q k. search (rules, tests)) (λ x q k. search (rules, tests))
