use Rattle.std.proofs.Common.{◌≡◌, ℕ, ◌<◌, false, take}
use Rattle.parts.specs.Fixed.{elements}
use Rattle.parts.specs.Parts.{parts_of}
use Rattle.plan.specs.Candidates.{system_of}
use Rattle.plan.specs.Checks.{late, response_times}
use Rattle.plan.proofs.candidate.Candidate.response_times.Given as goal

-- The parts so far have response times, and these are listed.
abbrev pub invariant-loop-index : goal.invariant-loop-index
invariant-loop-index g l =
    let sys = system_of l.self g.O.PriorityOrder.before g.R.ArrivalRule.curve in
    ((k : ℕ) → k < l.index → late sys k ≡ false) × (elements l.times ≡ response_times sys (take l.index (parts_of l.self.list.now)))
