use Rattle.std.proofs.Common.{◌*◌, ◌≤◌, arith}
use Rattle.tasks.specs.Numbers.{as_numbered, as_long}
use Rattle.plan.proofs.Demand.{share_bound}
use Rattle.plan.proofs.response.Workload.interference.Given as given
use Rattle.plan.proofs.response.Workload.interference.Goals as goal

bounded : (g : given.Over) (c : goal.After-from-2 g) → c.curve_at.result * c.from-2.result ≤ 4294967296000000
bounded g c =
    let i = as_numbered c.from-task.result in
    let rule = c.args.self.now.rule.now in
    share_bound (g.R.ArrivalRule.curve rule i) (g.met.R.ArrivalRule.curves rule i (omega arith)) (as_long c.args.length) c.from-2.result c.curve_at.result
    (omega arith) (omega arith) c.curve_at.ensures

pub overflow_mul-result : goal.overflow_mul-result
overflow_mul-result g c = omega (arith, bounded g c)

pub returns-clause-bound : goal.returns-clause-bound
returns-clause-bound g c = bounded g c
