-- What the check answers and leaves.
use Rattle.std.specs.Prelude.{◌≡◌, ℕ, ◌<◌, Bool, List, ◌++◌, length, drop, Some, None, Ok, Err, Option, Result, nat_lt}
use Rattle.std.specs.Option.{option_or, option_map}
use Rattle.std.specs.Bool.{then_some}
use Rattle.schedule.specs.declared.Part.{Part}
use Rattle.schedule.specs.Curves.{Subadditive}
use Rattle.schedule.specs.Layout.{System}
use Rattle.schedule.specs.Promise.{SomeLate}
use Rattle.schedule.specs.TickRule.{Call, history, started}
use Rattle.tasks.specs.Searches.{first_where}
use Rattle.tasks.specs.Sets.{count_of}
use Rattle.tasks.specs.declared.order.TaskKey.{TaskKey}
use Rattle.tasks.specs.declared.set.TaskSet.{TaskSet}
use Rattle.parts.specs.declared.fault.PlanFault.{PlanFault}
use Rattle.parts.specs.declared.fault.PlanFault.TheVariants.{Late, Cramped}
use Rattle.plan.specs.Checks.{late, response_times, earlier_fault, verdict}
use Rattle.parts.specs.Faults.{shown}
use Rattle.parts.specs.Fixed.{elements}
use Rattle.parts.specs.declared.fixed.FixedList.{FixedList}
use Rattle.plan.specs.Systems.{system}
use Rattle.sheet.specs.declared.fault.Layer.TheVariants as Layers

-- What comes of looking for all response times: the first part that has none is late, or the list of all.
abbrev pub Timed : System → List Part → Result (FixedList ℕ 64) PlanFault → Type 0
Timed sys ps (Err f) = option_map Late (first_where (late sys) (length ps)) ≡ Some f
Timed sys ps (Ok times) = (first_where (late sys) (length ps) ≡ None) × (elements times ≡ response_times sys ps)

-- What judging a plan gives where there is room for so many response times: the first fault, or each part's response time.
abbrev pub Judged : Option PlanFault → System → List Part → Result (FixedList ℕ 64) PlanFault → Type 0
Judged fault sys ps (Err f) = fault ≡ Some f
Judged fault sys ps (Ok times) = (fault ≡ None) × Timed sys ps (Ok times)

-- A refusal, or else the value.
abbrev pub refused_or : {A : Type 0} → Option PlanFault → A → Result A PlanFault
refused_or None x = Ok x
refused_or (Some f) x = Err f

module _ (set : TaskSet) (m : ℕ) (ps : List Part) (before : TaskKey → TaskKey → Bool) (curve : ℕ → ℕ → ℕ) where
  -- The check's answer where there is room for so many response times: their count, or the first fault. A buffer that is too short
  -- comes last.
  abbrev pub check_fault : ℕ → Option PlanFault
  check_fault room = option_or (verdict set m ps before curve) (then_some (nat_lt room (length ps)) (Cramped (length ps)))

  abbrev pub check_answer : ℕ → Result ℕ PlanFault
  check_answer room = refused_or (check_fault room) (length ps)

  -- The buffer after the check: the response times and what stood after them, or all as it was.
  abbrev pub check_buffer : Result ℕ PlanFault → List ℕ → List ℕ
  check_buffer (Ok n) old = response_times (system set m ps before curve) ps ++ drop (length ps) old
  check_buffer (Err f) old = old

  -- Some list of calls from a start makes a part late.
  abbrev pub CanBeLate : Type 0
  CanBeLate = (cs : List Call) × SomeLate (system set m ps before curve) (history (system set m ps before curve) (started (system set m ps before curve)) cs)

  -- Of a plan that passes the checks before lateness, under subadditive curves: it is refused as late, 10 of layer K, exactly when some
  -- list of calls from a start makes a part late.
  abbrev pub ExactlyLate : Result ℕ PlanFault → Type 0
  ExactlyLate r =
      earlier_fault set m ps before curve ≡ None → ((i : ℕ) → i < count_of set → Subadditive (curve i)) →
      (((f : PlanFault) × (r ≡ Err f) × ((shown f).layer ≡ Layers.Plan) × ((shown f).number ≡ 10)) → CanBeLate)
      × (CanBeLate → (f : PlanFault) × (r ≡ Err f) × ((shown f).layer ≡ Layers.Plan) × ((shown f).number ≡ 10))
