-- The plan of a task set on m processors under a priority order and an arrival rule.
use Rattle.std.specs.Prelude.{ℕ, Bool, cond, ◌&&◌, List, Some, None, Ok, Err, Option, Result, nat_le}
use Rattle.schedule.specs.declared.Part.{Part}
use Rattle.schedule.specs.Layout.{System}
use Rattle.tasks.specs.Numbers.{as_numbered}
use Rattle.tasks.specs.Orders.{as_asked}
use Rattle.tasks.specs.Sets.{key_of}
use Rattle.tasks.specs.declared.fault.SetFault.TheVariants.{OffScale}
use Rattle.tasks.specs.declared.order.TaskKey.{TaskKey}
use Rattle.tasks.specs.declared.set.TaskSet.{TaskSet}
use Rattle.parts.specs.declared.fault.PlanFault.{PlanFault}
use Rattle.parts.specs.declared.fault.PlanFault.TheVariants.{Set}
use Rattle.parts.specs.Parts.{PartList}
use Rattle.parts.specs.declared.lists.Proposal.{Proposal}
use Rattle.sheet.specs.declared.fault.Refusal.{Refusal}
use Rattle.parts.specs.Faults.{shown}
use Rattle.parts.specs.Parts.{parts_of, plan_of}
use Rattle.plan.specs.Responses.{response_within}
use Rattle.spa2.specs.Placing.{Tasks, tasks_of, parts_placed}
use Rattle.spa2.specs.Windows.{windowed}

-- The placed parts as a system of the tick rule.
abbrev pub system_of : Tasks → ℕ → (ℕ → ℕ → Bool) → (ℕ → ℕ → ℕ) → List Part → System
system_of t m before curve ps = record { tasks = t.count; procs = m; costs = t.cost; parts = ps; before = before; curve = curve }

-- The parts with the windows that they get in the finished plan.
abbrev pub finished : Tasks → ℕ → (ℕ → ℕ → Bool) → (ℕ → ℕ → ℕ) → List Part → Result (List Part) PlanFault
finished t m before curve ps = windowed t (response_within (system_of t m before curve ps)) ps

abbrev pub finished_if : Tasks → ℕ → (ℕ → ℕ → Bool) → (ℕ → ℕ → ℕ) → Result (List Part) PlanFault → Result (List Part) PlanFault
finished_if t m before curve (Ok ps) = finished t m before curve ps
finished_if t m before curve (Err e) = Err e

-- SPA2: the parts of the tasks on m processors, or what is wrong. `before a b` says that task a goes before task b, `curve i` is the
-- arrival curve of task i.
abbrev pub spa2 : Tasks → ℕ → (ℕ → ℕ → Bool) → (ℕ → ℕ → ℕ) → Result (List Part) PlanFault
spa2 t m before curve = cond (nat_le 1 m && nat_le m 8) (finished_if t m before curve (parts_placed t m)) (Err (Set (OffScale 0)))

-- The same for a task set, an order that is told numbers and periods, and a rule that is asked for numbers up to 31.
abbrev pub plan_for : TaskSet → ℕ → (TaskKey → TaskKey → Bool) → (ℕ → ℕ → ℕ) → Result (List Part) PlanFault
plan_for set m before curve = spa2 (tasks_of set) m (λ a b. before (as_asked (key_of set a)) (as_asked (key_of set b))) (λ i. curve (as_numbered i))

-- What an answer with listed parts says: those parts, or the fault.
abbrev pub listed_parts : Result PartList PlanFault → Result (List Part) PlanFault
listed_parts (Ok l) = Ok (parts_of l)
listed_parts (Err e) = Err e

-- What a planner's answer says: the parts of its proposal, or the fault.
abbrev pub answered : Result Proposal PlanFault → Result (List Part) PlanFault
answered (Ok p) = Ok (plan_of p)
answered (Err e) = Err e

-- A refusal by layer, number and place; none where there are parts.
abbrev pub refusal_of : Result (List Part) PlanFault → Option Refusal
refusal_of (Ok ps) = None
refusal_of (Err e) = Some (shown e)
