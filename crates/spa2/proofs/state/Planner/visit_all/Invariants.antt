use Rattle.std.proofs.Common.{◌≡◌, ◌-◌}
use Rattle.tasks.specs.Sets.{count_of}
use Rattle.spa2.specs.Placing.{tasks_of, visited_from, Visiting}
use Rattle.spa2.specs.Seen.{seen}
use Rattle.spa2.proofs.state.Planner.visit_all.Given as goal

-- The tasks still to be visited lead to the same state, and each task visited so far is in reserve or a piece.
abbrev pub invariant-loop-task : goal.invariant-loop-task
invariant-loop-task l =
    (visited_from (tasks_of l.set) (seen l.self) l.task (count_of l.set - l.task) ≡ visited_from (tasks_of l.set) (seen l.initial.self) 0 (count_of l.set))
    × Visiting (seen l.self) l.task
