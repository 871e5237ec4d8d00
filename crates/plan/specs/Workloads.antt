-- What a part's processor may be asked for as a system of the tick rule.
use Rattle.std.specs.Prelude.{ℕ, Bool}
use Rattle.schedule.specs.Layout.{System}
use Rattle.tasks.specs.declared.order.TaskKey.{TaskKey}
use Rattle.parts.specs.Parts.{parts_of}
use Rattle.plan.specs.Systems.{system}
use Rattle.plan.specs.declared.response.Workload.{Workload}

-- The system of the parts under the relation of the order and the curves of the rule; how many processors there are does not matter.
abbrev pub system_of : {O R : Type 0} → Workload O R → (O → TaskKey → TaskKey → Bool) → (R → ℕ → ℕ → ℕ) → System
system_of w before curve = system w.set.now 0 (parts_of w.parts.now) (before w.order.now) (curve w.rule.now)
