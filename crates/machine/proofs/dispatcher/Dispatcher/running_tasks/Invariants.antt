use Rattle.std.proofs.Common.{◌≡◌, ℕ, ◌<◌, length, get_or}
use Rattle.machine.proofs.Running.{Names}
use Rattle.machine.proofs.dispatcher.Dispatcher.running_tasks.Given as goal

-- The processors so far are named.
abbrev pub invariant-loop-processor : goal.invariant-loop-processor
invariant-loop-processor l =
    (length l.running ≡ 8)
    × ((p : ℕ) → p < l.processor → Names l.self.layout l.self.table p (get_or l.running p 0))
