use Rattle.std.proofs.Common.{◌≡◌, ℕ, ◌<◌, ◌≤◌, get_or}
use Rattle.parts.specs.Parts.{parts_of}
use Rattle.machine.specs.declared.jobs.Job.TheVariants.{Closed}
use Rattle.machine.specs.Jobs.{Aged}
use Rattle.machine.proofs.dispatcher.Dispatcher.grow_older.Given as goal

-- The jobs so far are a tick older, and the others as they were.
abbrev pub invariant-loop-task : goal.invariant-loop-task
invariant-loop-task l =
    (l.self.layout ≡ l.initial.self.layout)
    × ((i : ℕ) → i < l.task → Aged (parts_of l.initial.self.layout.list) l.running i (get_or l.initial.self.table.jobs i Closed) (get_or l.self.table.jobs i Closed))
    × ((i : ℕ) → l.task ≤ i → get_or l.self.table.jobs i Closed ≡ get_or l.initial.self.table.jobs i Closed)
