use Rattle.std.proofs.Common.{◌≡◌, ℕ, ◌<◌, map, get_or, take, drop, Ok}
use Rattle.schedule.specs.Sameness.{Same}
use Rattle.schedule.specs.TickRule.{history, state_after}
use Rattle.driving.specs.Driving.{call_of, recorded}
use Rattle.driving.specs.declared.Done.TheVariants.{Taken}
use Rattle.machine.specs.Meaning.{ByMachine, system_of, state_of, GoesOn}
use Rattle.driving.proofs.runs.run.Given as goal

-- What was recorded is the tick rule's history of the calls so far, and the machine's state is the one that they leave.
abbrev pub invariant-loop-i : goal.invariant-loop-i
invariant-loop-i g l =
    let first = l.initial.machine in
    let sys = system_of first g.O.PriorityOrder.before g.R.ArrivalRule.curve in
    let s = state_of first g.R.ArrivalRule.left in
    GoesOn first l.machine g.R.ArrivalRule.curve
    × (recorded first.dispatcher.layout.processors (take l.i l.calls) l.outcomes ≡ history sys s (map call_of (take l.i l.calls)))
    × Same sys (state_of l.machine g.R.ArrivalRule.left) (state_after sys s (map call_of (take l.i l.calls)))
    × (drop l.i l.outcomes ≡ drop l.i l.initial.outcomes)
    × ((k : ℕ) → k < l.i → ByMachine (get_or l.outcomes k (Ok Taken)))
