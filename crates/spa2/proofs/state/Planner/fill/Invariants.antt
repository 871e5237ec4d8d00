use Rattle.std.proofs.Common.{◌≡◌, ℕ, ◌+◌, ◌≤◌, length}
use Rattle.spa2.specs.Placing.{tasks_of, turns, weight}
use Rattle.spa2.specs.Seen.{seen}
use Rattle.spa2.proofs.state.Planner.fill.Given as goal

-- Enough turns from the start come to what enough turns from here come to.
abbrev pub invariant-loop-piece : goal.invariant-loop-piece
invariant-loop-piece l =
    ((k : ℕ) → weight (seen l.initial.self) ≤ k → (j : ℕ) × (weight (seen l.self) ≤ j) × (turns (tasks_of l.set) k (seen l.initial.self) ≡ turns (tasks_of l.set) j (seen l.self)))
    × (length (seen l.self).parts + weight (seen l.self) ≤ 64)

abbrev pub decreases-loop-piece : goal.decreases-loop-piece
decreases-loop-piece l = weight (seen l.self)
