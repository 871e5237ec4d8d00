use Rattle.std.proofs.Common.{◌≡◌, ℕ, ◌<◌, length, get_or}
use Rattle.machine.specs.Layouts.{word_up_to}
use Rattle.machine.proofs.dispatcher.Dispatcher.ready_words.Given as goal

-- The words of the tasks so far.
abbrev pub invariant-loop-task : goal.invariant-loop-task
invariant-loop-task l = (length l.words ≡ 8) × ((p : ℕ) → p < 8 → get_or l.words p 0 ≡ word_up_to l.self.layout l.self.table p l.task)
