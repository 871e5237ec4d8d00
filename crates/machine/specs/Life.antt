-- The life of a machine: what it has been told since its start, and what it has answered.
use Rattle.std.specs.Prelude.{◌≡◌, ℕ, Bool, List, [], ◌∷◌, ◌++◌, None}
use Rattle.schedule.specs.Layout.{System}
use Rattle.schedule.specs.Promise.{KeptThroughout}
use Rattle.schedule.specs.Sameness.{Same}
use Rattle.schedule.specs.TickRule.{State, Call, Answer, History, history, state_after, started}
use Rattle.tasks.specs.declared.order.TaskKey.{TaskKey}
use Rattle.plan.specs.Checks.{verdict}
use Rattle.parts.specs.Parts.{parts_of}
use Rattle.machine.specs.declared.Machine.{Machine}
use Rattle.machine.specs.Meaning.{set_of, processors_of, list_of, system_of, state_of, Ranked}

-- Some calls from a start have this history, and leave this state.
abbrev pub Lived : System → State → History → Type 0
Lived sys s h = (cs : List Call) × (h ≡ history sys (started sys) cs) × Same sys s (state_after sys (started sys) cs)

-- The machine has the ranks of its order, and has lived this history since its start.
abbrev pub Lives : {O R : Type 0} → Machine O R → (O → TaskKey → TaskKey → Bool) → (R → ℕ → ℕ → ℕ) → (R → ℕ → ℕ → ℕ) → History → Type 0
Lives m before curve left h = Ranked m before × Lived (system_of m before curve) (state_of m left) h

-- The check accepts the plan that the machine runs.
abbrev pub Accepted : {O R : Type 0} → Machine O R → (O → TaskKey → TaskKey → Bool) → (R → ℕ → ℕ → ℕ) → Type 0
Accepted m before curve =
    verdict (set_of m) (processors_of m) (parts_of (list_of m)) (before m.order) (curve m.rule) ≡ None

-- A call goes on with the life of a machine: whatever it had lived, it has lived that and the call with its answer, and if its plan is
-- accepted, then that history and each of its beginnings keep the promise.
pub record LifeGoesOn {O R : Type 0} (old new : Machine O R) (before : O → TaskKey → TaskKey → Bool) (curve left : R → ℕ → ℕ → ℕ)
    (c : Call) (told : Answer) : Type 0 where
  pub lives : (h : History) → Lives old before curve left h → Lives new before curve left (h ++ ((c, told) ∷ []))
  pub kept : Accepted old before curve → (h : History) → Lives old before curve left h →
      KeptThroughout (system_of new before curve) (h ++ ((c, told) ∷ []))
  pub accepted : Accepted old before curve → Accepted new before curve
