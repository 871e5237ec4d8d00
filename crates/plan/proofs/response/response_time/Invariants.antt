use Rattle.std.proofs.Common.{◌+◌, ◌-◌, ◌≤◌}
use Rattle.plan.specs.Workloads.{system_of}
use Rattle.plan.proofs.Demand.{ShortOf}
use Rattle.plan.proofs.response.response_time.Given as goal

-- Every stretch before this one is too short.
abbrev pub invariant-loop-length : goal.invariant-loop-length
invariant-loop-length g l =
    (1 ≤ l.length) × (l.longest ≤ 1000000)
    × ShortOf (system_of l.workload g.O.PriorityOrder.before g.R.ArrivalRule.curve) l.workload.part l.length

abbrev pub decreases-loop-length : goal.decreases-loop-length
decreases-loop-length g l = l.longest + 1 - l.length
