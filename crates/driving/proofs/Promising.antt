-- What a drive rests on: its refusals against the check's, and its history against that of the tick rule.
use Rattle.std.proofs.Common.{◌≡◌, ℕ, ◌<◌, ◌≤◌, Bool, true, false, ltb, List, length, Some, None, Ok, Err, Option, MatchOption, Result, sym, refl, ap, ◌∙◌, subst, arith}
use Rattle.std.specs.Bool.{then_some}
use Rattle.std.proofs.lemmas.Bool.{le-ltb, lt-ltb}
use Rattle.schedule.specs.declared.Part.{Part}
use Rattle.schedule.specs.Curves.{Subadditive}
use Rattle.schedule.specs.Layout.{System}
use Rattle.schedule.specs.Promise.{KeptThroughout}
use Rattle.schedule.specs.Sameness.{Same, Alike}
use Rattle.schedule.specs.TickRule.{State, History, history, state_after, started}
use Rattle.schedule.specs.TickRule as rules
use Rattle.schedule.proofs.Histories.{same_history, same_states, same_trans, same_sym, alike_history, alike_states, alike_started, alike_same, alike_sym}
use Rattle.schedule.proofs.Theorems.{sound_throughout}
use Rattle.tasks.specs.Arrivals.{SameCurves}
use Rattle.tasks.specs.Numbers.{as_numbered}
use Rattle.tasks.specs.Orders.{as_asked}
use Rattle.tasks.specs.Sets.{count_of, cost_of, key_of}
use Rattle.tasks.specs.declared.order.TaskKey.{TaskKey}
use Rattle.tasks.specs.declared.set.TaskSet.{TaskSet}
use Rattle.plan.specs.Answers.{refused_or, check_fault, CanBeLate}
use Rattle.plan.specs.Checks.{earlier_fault, late_fault, verdict}
use Rattle.parts.specs.Faults as plans
use Rattle.plan.specs.Systems.{system}
use Rattle.parts.specs.declared.fault.PlanFault.{PlanFault}
use Rattle.plan.proofs.Exactness.{exactly_late}
use Rattle.plan.proofs.Passing.{or_none}
use Rattle.tasks.specs.Orders.{LawfulOrder}
use Rattle.plan.proofs.Verdicts.{LawfulCurves, laid_out, in_time}
use Rattle.machine.specs.declared.Machine.{Machine}
use Rattle.machine.specs.declared.fault.MachineFault.{MachineFault}
use Rattle.machine.specs.declared.fault.MachineFault.TheVariants.{Plan, Cramped}
use Rattle.driving.specs.Driving.{drive_fault, AsLate}
use Rattle.machine.specs.Faults.{shown}
use Rattle.machine.specs.Meaning.{system_of, state_of}
use Rattle.sheet.specs.declared.fault.Layer.TheVariants as Layers

-- The check refused as late.
abbrev CheckLate : Result ℕ PlanFault → Type 0
CheckLate r = (f : PlanFault) × (r ≡ Err f) × ((plans.shown f).layer ≡ Layers.Plan) × ((plans.shown f).number ≡ 10)

cramped_not_late : (b : Bool) (n : ℕ) → AsLate (then_some b (Cramped n)) → ⊥
cramped_not_late true n h =
    let same : Cramped n ≡ h.0 = cc h.1 in
    let layer : Layers.Machine ≡ (shown h.0).layer = ap (λ (f : MachineFault). (shown f).layer) same in
    cc (layer, h.2)
cramped_not_late false n h = cc h.1

to_check : (o : Option PlanFault) (n k len : ℕ) → AsLate (drive_fault o n k) → CheckLate (refused_or o len)
to_check None n k len h = absurd (cramped_not_late (ltb k n) n h)
to_check (Some f) n k len h =
    let same : Plan f ≡ h.0 = cc h.1 in
    (f, refl, ap (λ (x : MachineFault). (shown x).layer) same ∙ h.2, ap (λ (x : MachineFault). (shown x).number) same ∙ h.3)

from_check : (o : Option PlanFault) (n k len : ℕ) → CheckLate (refused_or o len) → AsLate (drive_fault o n k)
from_check None n k len h = absurd (cc h.1)
from_check (Some f) n k len h = let same : f ≡ h.0 = cc h.1 in (Plan h.0, ap (λ (x : PlanFault). Some (Plan x)) same, h.2, h.3)

-- What the check answered tells what it found.
pub found_by : (o : Option PlanFault) (n : ℕ) (f : PlanFault) → Err f ≡ refused_or o n → o ≡ Some f
found_by None n f e = cc
found_by (Some g) n f e = cc

pub nothing_by : (o : Option PlanFault) (n k : ℕ) → Ok k ≡ refused_or o n → o ≡ None
nothing_by None n k e = refl
nothing_by (Some g) n k e = cc

-- Without room, the check's fault or that there is no room is what is refused for.
pub refused_by : (o : Option PlanFault) (n k : ℕ) (f : MachineFault) → MatchOption o (f ≡ Cramped n) (λ p. f ≡ Plan p) → k < n → Some f ≡ drive_fault o n k
refused_by None n k f e h = ap (λ (x : MachineFault). Some x) e ∙ ap (λ (b : Bool). then_some b (Cramped n)) (sym (lt-ltb k n h))
refused_by (Some p) n k f e h = ap (λ (x : MachineFault). Some x) e

-- Without a fault of the check and with room, nothing is refused.
pub nothing_refused : (o : Option PlanFault) (n k : ℕ) → o ≡ None → n ≤ k → None ≡ drive_fault o n k
nothing_refused o n k e h = subst (λ (x : Option PlanFault). None ≡ drive_fault x n k) (sym e) (ap (λ (b : Bool). then_some b (Cramped n)) (sym (le-ltb k n h)))

module _ (set : TaskSet) (m : ℕ) (ps : List Part) (before : TaskKey → TaskKey → Bool) (curve : ℕ → ℕ → ℕ) (order_law : LawfulOrder before) (curve_law : LawfulCurves curve) where
  -- The verdict of a drive is as exact as the check's.
  pub drive_exact : (room n k : ℕ) (fault : Option MachineFault) → fault ≡ drive_fault (check_fault set m ps before curve room) n k →
      earlier_fault set m ps before curve ≡ None → ((i : ℕ) → i < count_of set → Subadditive (curve i)) →
      (AsLate fault → CanBeLate set m ps before curve) × (CanBeLate set m ps before curve → AsLate fault)
  drive_exact room n k fault e passes sub =
      let exact = exactly_late set m ps before curve order_law curve_law room passes sub in
      let o = check_fault set m ps before curve room in
      ((λ h. exact.0 (to_check o n k (length ps) (subst AsLate e h))), (λ can. subst AsLate (sym e) (from_check o n k (length ps) (exact.1 can))))

  -- An accepted plan keeps its promise on every list of calls.
  pub keeps : verdict set m ps before curve ≡ None → (cs : List rules.Call) →
      KeptThroughout (system set m ps before curve) (history (system set m ps before curve) (started (system set m ps before curve)) cs)
  keeps accepted cs =
      let passes = or_none (earlier_fault set m ps before curve) (late_fault set m ps before curve) accepted in
      sound_throughout (system set m ps before curve) (laid_out set m ps before curve order_law curve_law passes.0) (in_time set m ps before curve passes.1) cs

  pub accepted_by : (room : ℕ) → check_fault set m ps before curve room ≡ None → verdict set m ps before curve ≡ None
  accepted_by room e = (or_none (verdict set m ps before curve) _ e).0

-- Systems made of equal sets, plans and orders, and of curves that agree, are alike.
pub system_alike : (set set' : TaskSet) (m m' : ℕ) (ps ps' : List Part) (before before' : TaskKey → TaskKey → Bool) (curve curve' : ℕ → ℕ → ℕ) →
    set' ≡ set → m' ≡ m → ps' ≡ ps → before' ≡ before → SameCurves curve curve' → Alike (system set m ps before curve) (system set' m' ps' before' curve')
system_alike set set' m m' ps ps' before before' curve curve' es em ep eb ec = record {
  tasks = sym (ap count_of es);
  procs = sym em;
  parts = sym ep;
  costs = λ i h. sym (ap (λ (s : TaskSet). cost_of s i) es);
  before = λ i k hi hk.
      sym (ap (λ (b : TaskKey → TaskKey → Bool). b (as_asked (key_of set' i)) (as_asked (key_of set' k))) eb
      ∙ ap (λ (s : TaskSet). before (as_asked (key_of s i)) (as_asked (key_of s k))) es);
  curve = λ i L h. sym (ec (as_numbered i) L (omega arith));
}

module _ {O R : Type 0} (before : O → TaskKey → TaskKey → Bool) (curve left : R → ℕ → ℕ → ℕ) (sys : System) (first : Machine O R)
    (alike : Alike sys (system_of first before curve))
    (fresh : Same (system_of first before curve) (state_of first left) (started (system_of first before curve))) where
  -- The history of a machine from its start is that of the system.
  pub history_from_start : (cs : List rules.Call) → history (system_of first before curve) (state_of first left) cs ≡ history sys (started sys) cs
  history_from_start cs =
      same_history (system_of first before curve) _ _ fresh cs ∙ sym (alike_history sys (system_of first before curve) alike cs (started sys) (started (system_of first before curve)) (alike_started sys (system_of first before curve) alike))

  pub state_from_start : (cs : List rules.Call) (s : State) → Same (system_of first before curve) s (state_after (system_of first before curve) (state_of first left) cs) →
      Same sys s (state_after sys (started sys) cs)
  state_from_start cs s h =
      let b = system_of first before curve in
      let back = alike_sym sys b alike in
      let one = same_trans b s _ (state_after b (started b) cs) h (same_states b _ _ fresh cs) in
      same_trans sys s (state_after b (started b) cs) (state_after sys (started sys) cs) (alike_same b sys back s (state_after b (started b) cs) one)
      (same_sym sys _ _ (alike_states sys b alike cs (started sys) (started b) (alike_started sys b alike)))
