-- Lists of calls, what came of them, and the history that they make.
use Rattle.std.specs.Prelude.{◌≡◌, ℕ, ◌<◌, Bool, List, [], ◌∷◌, ◌++◌, map, length, take, drop, Some, None, Ok, Err, Option, Result, nat_lt, slice_index_or}
use Rattle.std.specs.Option.{option_or, option_map}
use Rattle.std.specs.Bool.{then_some}
use Rattle.schedule.specs.declared.Part.{Part}
use Rattle.schedule.specs.Curves.{Subadditive}
use Rattle.schedule.specs.Layout.{System}
use Rattle.schedule.specs.Promise.{KeptThroughout}
use Rattle.schedule.specs.TickRule.{Answer, taken, ran, refused, History, history, started}
use Rattle.tasks.specs.Sets.{count_of}
use Rattle.tasks.specs.declared.order.TaskKey.{TaskKey}
use Rattle.tasks.specs.declared.set.TaskSet.{TaskSet}
use Rattle.plan.specs.Answers.{check_fault, CanBeLate}
use Rattle.plan.specs.Checks.{earlier_fault, response_times}
use Rattle.plan.specs.Systems.{system}
use Rattle.parts.specs.declared.fault.PlanFault.{PlanFault}
use Rattle.machine.specs.declared.Machine.{Machine}
use Rattle.machine.specs.declared.fault.MachineFault.{MachineFault}
use Rattle.machine.specs.declared.fault.MachineFault.TheVariants.{Plan, Cramped}
use Rattle.driving.specs.declared.Undriven.{Undriven}
use Rattle.schedule.specs.TickRule as rules
use Rattle.driving.specs.declared.Call.{Call}
use Rattle.driving.specs.declared.Call.TheVariants.{Release, Finish, Tick}
use Rattle.driving.specs.declared.Done.{Done}
use Rattle.driving.specs.declared.Done.TheVariants.{Taken, Ran}
use Rattle.machine.specs.Meaning.{ByMachine}
use Rattle.machine.specs.Faults.{shown}
use Rattle.sheet.specs.declared.fault.Layer.TheVariants as Layers

-- The call of the tick rule.
abbrev pub call_of : Call → rules.Call
call_of (Release task) = rules.release task
call_of (Finish task) = rules.finish task
call_of (Tick room) = rules.tick room

-- What came of a call: what it did, or what it was refused for.
abbrev pub Outcome : Type 0
Outcome = Result Done MachineFault

-- The answer of the tick rule on m processors: of a tick, its first m bytes; of a refusal, the fault's number and place.
abbrev pub outcome_meant : ℕ → Outcome → Answer
outcome_meant m (Ok Taken) = taken
outcome_meant m (Ok (Ran bytes)) = ran (take m bytes)
outcome_meant m (Err fault) = refused (shown fault).number (shown fault).place

-- The history of calls with what came of them, as far as both go.
abbrev pub recorded : ℕ → List Call → List Outcome → History
recorded m [] outcomes = []
recorded m (c ∷ cs) [] = []
recorded m (c ∷ cs) (o ∷ os) = (call_of c, outcome_meant m o) ∷ recorded m cs os

-- What a drive refuses for: what the check refuses for, and then outcomes without room for every call.
abbrev pub drive_fault : Option PlanFault → ℕ → ℕ → Option MachineFault
drive_fault checked calls room = option_or (option_map Plan checked) (then_some (nat_lt room calls) (Cramped calls))

-- Refused as late: 10 of layer K.
abbrev pub AsLate : Option MachineFault → Type 0
AsLate fault = (f : MachineFault) × (fault ≡ Some f) × ((shown f).layer ≡ Layers.Plan) × ((shown f).number ≡ 10)

-- What is kept of a plan that was accepted and driven by a list of calls: `times` and `outcomes` are the buffers after the drive.
pub record Driven (sys : System) (calls : List Call) (old_times times : List ℕ) (old_outcomes outcomes : List Outcome) : Type 0 where
  -- the response times of the parts, and after them what was there
  pub responses : times ≡ response_times sys sys.parts ++ drop (length sys.parts) old_times
  -- every call was taken or refused as the tick rule says, from a start on
  pub ruled : recorded sys.procs calls outcomes ≡ history sys (started sys) (map call_of calls)
  -- refusals are the machine's own, and what stood after the outcomes stays
  pub own : (k : ℕ) → k < length calls → ByMachine (slice_index_or outcomes k (Ok Taken))
  pub rest : drop (length calls) outcomes ≡ drop (length calls) old_outcomes
  -- in each beginning of what was recorded: no part is late, each runs only inside its window and in order, no task runs on two
  -- processors in one tick, once its last window has passed a job not finished early has run just its cost, and no job more
  pub kept : KeptThroughout sys (recorded sys.procs calls outcomes)

-- The promise, whole: of a plan, whoever cut it, and a list of calls, whoever makes them, for every order and every arrival rule.
pub record Promised (set : TaskSet) (m : ℕ) (ps : List Part) (before : TaskKey → TaskKey → Bool) (curve : ℕ → ℕ → ℕ) (calls : List Call)
    (old_times times : List ℕ) (old_outcomes outcomes : List Outcome) (fault : Option MachineFault) : Type 0 where
  -- refused exactly as the check refuses, and then where there is no room for what comes of every call
  pub refused : fault ≡ drive_fault (check_fault set m ps before curve (length old_times)) (length calls) (length old_outcomes)
  -- of a plan that passes the checks before lateness, under subadditive curves: refused as late exactly when some list of calls from a
  -- start makes a part late
  pub exact : earlier_fault set m ps before curve ≡ None → ((i : ℕ) → i < count_of set → Subadditive (curve i)) →
      (AsLate fault → CanBeLate set m ps before curve) × (CanBeLate set m ps before curve → AsLate fault)
  -- a refusal changes nothing
  pub untouched : (f : MachineFault) → fault ≡ Some f → (times ≡ old_times) × (outcomes ≡ old_outcomes)
  -- accepted, the machine keeps its promise on these calls
  pub driven : fault ≡ None → Driven (system set m ps before curve) calls old_times times old_outcomes outcomes

-- What a drive refused for, if it did.
abbrev pub fault_in : {O R : Type 0} → Result (Machine O R) (Undriven O R) → Option MachineFault
fault_in (Ok m) = None
fault_in (Err u) = Some u.fault
