use Rattle.rules.specs.Joining.{joined_lawful}
use Rattle.rules.specs.PacingLemmas.{joined_paced, paced_subadditive}
use Rattle.rules.proofs.both.Both.join.Goals as goal

pub returns-clause-paced : goal.returns-clause-paced
returns-clause-paced g c first second i h = joined_paced _ _ (first i h) (second i h)

pub returns-clause-subadditive : goal.returns-clause-subadditive
returns-clause-subadditive g c first second i h =
    let lawful = joined_lawful _ _ (g.met.A.ArrivalRule.curves c.args.first i h) (g.met.B.ArrivalRule.curves c.args.second i h) in
    paced_subadditive _ lawful.none (joined_paced _ _ (first i h) (second i h))
