use Rattle.std.proofs.Common.{◌≡◌, length, drop}
use Rattle.parts.specs.Parts.{parts_of}
use Rattle.plan.specs.Responses.{response_within}
use Rattle.plan.specs.Systems.{system}
use Rattle.spa2.specs.Placing.{tasks_of}
use Rattle.spa2.specs.Windows.{windowed, windowed_from}
use Rattle.spa2.proofs.windows.with_windows.Given as goal

-- What is left to do, with the windows so far, comes to the whole.
abbrev pub invariant-loop-number : goal.invariant-loop-number
invariant-loop-number g l =
    let respond = response_within (system l.set 0 (parts_of l.parts) (g.O.PriorityOrder.before l.order) (g.R.ArrivalRule.curve l.rule)) in
    record {
      same : windowed_from (tasks_of l.set) respond (parts_of l.done) (drop l.number (parts_of l.parts)) ≡ windowed (tasks_of l.set) respond (parts_of l.parts);
      so_far : length (parts_of l.done) ≡ l.number;
    }
