use Rattle.std.proofs.Common.{rules}
use Rattle.std.specs.Prelude.{not, ◌||◌}
use borrow.Author.Tests.{tests}
use Rattle.tasks.proofs.Searches.{first_pair}
use Rattle.tasks.specs.Sets.{on_scale}
use Rattle.tasks.proofs.set.methods.first_off_scale.Goals as goal

pub returns : goal.returns
returns c =
    first_pair (λ p c. not (on_scale p) || not (on_scale c)) c.args.periods.now c.args.costs.now c.position.new.self _ c.position.ensures.ran (cc) (cc) c.requires
    (λ x q k. search (rules, tests)) (λ x q k. search (rules, tests))
