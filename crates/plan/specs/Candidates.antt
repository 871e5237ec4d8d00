-- A candidate as a system of the tick rule.
use Rattle.std.specs.Prelude.{ℕ, Bool}
use Rattle.schedule.specs.Layout.{System}
use Rattle.tasks.specs.declared.order.TaskKey.{TaskKey}
use Rattle.parts.specs.Parts.{parts_of}
use Rattle.plan.specs.Systems.{system}
use Rattle.plan.specs.declared.candidate.Candidate.{Candidate}

-- The system of the candidate's plan under the relation of its order and the curves of its rule.
abbrev pub system_of : {O R : Type 0} → Candidate O R → (O → TaskKey → TaskKey → Bool) → (R → ℕ → ℕ → ℕ) → System
system_of c before curve = system c.set.now c.processors (parts_of c.list.now) (before c.order.now) (curve c.rule.now)
