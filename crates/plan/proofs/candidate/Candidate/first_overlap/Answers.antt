use Rattle.std.proofs.Common.{ap, ◌∙◌, rules}
use borrow.Author.Tests.{tests}
use Rattle.tasks.proofs.Searches.{find_first}
use Rattle.tasks.specs.Searches.{first_where}
use Rattle.plan.specs.Candidates.{system_of}
use Rattle.plan.specs.Checks.{overlap}
use Rattle.plan.proofs.candidate.Candidate.first_overlap.Goals as goal

pub returns : goal.returns
returns g c =
    let sys = system_of c.args.self.now g.O.PriorityOrder.before g.R.ArrivalRule.curve in
    find_first (overlap sys) c.count.result _ _ c.find.ensures.ran (λ i q k. search (rules, tests)) (λ i q k. search (rules, tests))
    ∙ ap (first_where (overlap sys)) c.count.ensures
