-- The system that a machine runs, and the state of the tick rule that it is in.
use Rattle.std.specs.Prelude.{◌≡◌, ℕ, ◌<◌, Bool, List, map, take, Ok, Err, Result, slice_index}
use Rattle.schedule.specs.Layout.{System}
use Rattle.schedule.specs.TickRule.{State, Call, Answer, refused, answers, after_call, runs_on}
use Rattle.schedule.specs.Sameness.{Same}
use Rattle.tasks.specs.Arrivals.{SameCurves}
use Rattle.tasks.specs.Numbers.{as_numbered}
use Rattle.tasks.specs.Sets.{count_of}
use Rattle.tasks.specs.declared.order.TaskKey.{TaskKey}
use Rattle.tasks.specs.declared.set.TaskSet.{TaskSet}
use Rattle.parts.specs.Parts.{PartList, parts_of}
use Rattle.plan.specs.Systems.{system}
use Rattle.machine.specs.declared.fault.MachineFault.{MachineFault}
use Rattle.machine.specs.declared.jobs.JobTable.{JobTable}
use Rattle.machine.specs.declared.layout.Layout.{Layout}
use Rattle.machine.specs.declared.Machine.{Machine}
use Rattle.machine.specs.Faults.{shown}
use Rattle.machine.specs.Jobs.{meant}
use Rattle.machine.specs.Layouts.{ByOrder}
use Rattle.sheet.specs.declared.fault.Layer.TheVariants as Layers

-- How many processors the plan of a machine has, its task set, and the list of its parts.
abbrev pub processors_of : {O R : Type 0} → Machine O R → ℕ
processors_of m = m.dispatcher.layout.processors

abbrev pub set_of : {O R : Type 0} → Machine O R → TaskSet
set_of m = m.dispatcher.layout.set

abbrev pub list_of : {O R : Type 0} → Machine O R → PartList
list_of m = m.dispatcher.layout.list

-- The system of a layout under an order's relation and a rule's curves.
abbrev pub laid_system : Layout → (TaskKey → TaskKey → Bool) → (ℕ → ℕ → ℕ) → System
laid_system l before curve = system l.set l.processors (parts_of l.list) before curve

-- The state of the tick rule: the clock, what the rule has left, and what the records of the set's tasks mean.
abbrev pub table_state : Layout → JobTable → ℕ → (ℕ → ℕ → ℕ) → State
table_state l table clock left = record {
  clock = clock;
  room = λ i. left (as_numbered i);
  jobs = map (meant (parts_of l.list)) (take (count_of l.set) table.jobs);
}

-- The system and the state of a machine: `before` gives the relation of its order, `curve` and `left` give the curves of its rule
-- and what is left of them.
abbrev pub system_of : {O R : Type 0} → Machine O R → (O → TaskKey → TaskKey → Bool) → (R → ℕ → ℕ → ℕ) → System
system_of m before curve = laid_system m.dispatcher.layout (before m.order) (curve m.rule)

abbrev pub state_of : {O R : Type 0} → Machine O R → (R → ℕ → ℕ → ℕ) → State
state_of m left = table_state m.dispatcher.layout m.dispatcher.table m.clock (left m.rule)

-- The ranks of a machine are those of its order.
abbrev pub Ranked : {O R : Type 0} → Machine O R → (O → TaskKey → TaskKey → Bool) → Type 0
Ranked m before = ByOrder m.dispatcher.layout (before m.order)

-- What a call answered: as told where it was taken, else the number and the place of the fault.
abbrev pub answer_of : {X : Type 0} → Result X MachineFault → Answer → Answer
answer_of (Ok x) told = told
answer_of (Err e) told = refused (shown e).number (shown e).place

-- A refusal is the machine's own.
abbrev pub ByMachine : {X : Type 0} → Result X MachineFault → Type 0
ByMachine (Ok x) = Unit {0}
ByMachine (Err e) = (shown e).layer ≡ Layers.Machine

-- A call answered, and left the state, as the tick rule says.
pub record Obeyed (sys : System) (old : State) (c : Call) (told : Answer) (new : State) : Type 0 where
  pub answered : told ≡ answers sys old c
  pub state : Same sys new (after_call sys old c)

-- A machine answered a call, and was left by it, as the tick rule says.
abbrev pub Obeys : {O R : Type 0} → Machine O R → Machine O R → (O → TaskKey → TaskKey → Bool) → (R → ℕ → ℕ → ℕ) → (R → ℕ → ℕ → ℕ) →
    Call → Answer → Type 0
Obeys old new before curve left c told = Obeyed (system_of old before curve) (state_of old left) c told (state_of new left)

-- A machine goes on with the same plan and order, and with the same curves.
pub record GoesOn {O R : Type 0} (old new : Machine O R) (curve : R → ℕ → ℕ → ℕ) : Type 0 where
  pub layout : new.dispatcher.layout ≡ old.dispatcher.layout
  pub order : new.order ≡ old.order
  pub curves : SameCurves (curve old.rule) (curve new.rule)

-- The bytes say of each processor which task it runs, whatever the order of which the layout has the ranks.
abbrev pub Runs : Layout → JobTable → List ℕ → Type 0
Runs l table bytes =
    (before : TaskKey → TaskKey → Bool) (curve left : ℕ → ℕ → ℕ) (clock : ℕ) → ByOrder l before →
    (p : ℕ) → p < l.processors → slice_index bytes p ≡ runs_on (laid_system l before curve) (table_state l table clock left) p
