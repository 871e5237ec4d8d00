use Rattle.std.proofs.Common.{◌≡◌, ℕ, map, length, Some, None, Option, sym, refl, ap, ◌∙◌, subst, rules}
use Rattle.schedule.specs.Promise.{KeptThroughout}
use Rattle.schedule.specs.TickRule.{history, started}
use Rattle.tasks.specs.Arrivals.{SameCurves}
use Rattle.plan.specs.Answers.{check_fault}
use Rattle.parts.specs.Parts.{PartList, plan_of, parts_of}
use Rattle.plan.specs.Systems.{system}
use Rattle.parts.specs.declared.fault.PlanFault.{PlanFault}
use Rattle.machine.specs.declared.fault.MachineFault.{MachineFault}
use Rattle.machine.specs.declared.layout.Layout.{Layout}
use Rattle.driving.specs.Driving.{drive_fault, recorded, call_of}
use Rattle.machine.specs.Layouts.{ByOrder}
use Rattle.machine.specs.Meaning.{state_of}
use Rattle.tasks.proofs.Orderings.{lawful_order}
use Rattle.driving.proofs.Promising.{found_by, nothing_by, refused_by, nothing_refused, drive_exact, keeps, accepted_by, system_alike, history_from_start, state_from_start}
use Rattle.driving.proofs.promise.drive.Goals as goal

pub returns-then-outcomes-needed-clause-promise : goal.returns-then-outcomes-needed-clause-promise
returns-then-outcomes-needed-clause-promise g c =
    let before = g.O.PriorityOrder.before c.args.order in
    let curve = g.R.ArrivalRule.curve c.args.rule in
    let ps = plan_of c.args.proposal in
    let room = length c.args.responses.now in
    let n = length c.args.calls.now in
    let k = length c.args.outcomes.now in
    let fault = c.map_or-fault.result in
    let refused : Some fault ≡ drive_fault (check_fault c.args.set c.args.processors ps before curve room) n k =
    refused_by c.fault_of.result n k fault (search rules) c.if-outcomes-needed.true ∙ ap (λ (o : Option PlanFault). drive_fault o n k) c.fault_of.ensures in
    record {
      refused = refused;
      exact = drive_exact c.args.set c.args.processors ps before curve (lawful_order g.met.O.PriorityOrder c.args.order) (g.met.R.ArrivalRule.curves c.args.rule) room n k _ refused;
      untouched = λ f e. (refl, refl);
      driven = λ e. absurd (cc);
    }

pub returns-in-Err-clause-promise : goal.returns-in-Err-clause-promise
returns-in-Err-clause-promise g c =
    let before = g.O.PriorityOrder.before c.args.order in
    let curve = g.R.ArrivalRule.curve c.args.rule in
    let ps = plan_of c.args.proposal in
    let room = length c.args.responses.now in
    let n = length c.args.calls.now in
    let k = length c.args.outcomes.now in
    let fault = c.in-Err.fault in
    let found : check_fault c.args.set c.args.processors ps before curve room ≡ Some fault = found_by _ _ fault c.in-Err.ensures.answer in
    let refused : Some c.into.result ≡ drive_fault (check_fault c.args.set c.args.processors ps before curve room) n k = ap (λ (f : MachineFault). Some f) c.into.ensures ∙ ap (λ (o : Option PlanFault). drive_fault o n k) (sym found) in
    record {
      refused = refused;
      exact = drive_exact c.args.set c.args.processors ps before curve (lawful_order g.met.O.PriorityOrder c.args.order) (g.met.R.ArrivalRule.curves c.args.rule) room n k _ refused;
      untouched = λ f e. (c.in-Err.ensures.times, refl);
      driven = λ e. absurd (cc);
    }

pub returns-in-Ok : goal.returns-in-Ok
returns-in-Ok g c =
    let before = g.O.PriorityOrder.before in
    let curve = g.R.ArrivalRule.curve in
    let left = g.R.ArrivalRule.left in
    let set = c.args.set in
    let m = c.args.processors in
    let ps = plan_of c.args.proposal in
    let b = before c.args.order in
    let v = curve c.args.rule in
    let room = length c.args.responses.now in
    let n = length c.args.calls.now in
    let k = length c.args.outcomes.now in
    let cs = map call_of c.args.calls.now in
    let law = lawful_order g.met.O.PriorityOrder c.args.order in
    let curves = g.met.R.ArrivalRule.curves c.args.rule in
    let found : check_fault set m ps b v room ≡ None = nothing_by _ _ _ c.in-Ok.ensures.answer in
    let refused : None ≡ drive_fault (check_fault set m ps b v room) n k = nothing_refused _ n k found c.if-outcomes-needed.false in
    let held = c.in-Ok.ensures.held in
    let carried = c.start-machine.ensures.carried in
    let first = c.start-machine.result in
    let sys = system set m ps b v in
    let procs : first.dispatcher.layout.processors ≡ m = carried.1 ∙ held.1 in
    let listed : parts_of first.dispatcher.layout.list ≡ ps = ap (λ (l : PartList). parts_of l) carried.2 ∙ held.2 in
    let ordered : first.order ≡ c.args.order = carried.3 ∙ held.3 in
    let same_curves : SameCurves v (curve first.rule) = λ i L h. c.start-machine.ensures.curves i L h ∙ ap (λ (r : g.row.R.Denot). curve r i L) held.4 in
    let alike = system_alike set first.dispatcher.layout.set m first.dispatcher.layout.processors ps (parts_of first.dispatcher.layout.list) b (before first.order) v (curve first.rule)
    (carried.0 ∙ held.0) procs listed (ap before ordered) same_curves in
    let fresh = c.start-machine.ensures.state in
    let told : recorded first.dispatcher.layout.processors c.args.calls.now c.run.new.outcomes ≡ history sys (started sys) cs =
    c.run.ensures.told ∙ history_from_start before curve left sys first alike fresh cs in
    let ruled : recorded m c.args.calls.now c.run.new.outcomes ≡ history sys (started sys) cs =
    ap (λ (p : ℕ). recorded p c.args.calls.now c.run.new.outcomes) (sym procs) ∙ told in
    let on = c.run.ensures.same in
    record {
      promise = record {
        refused = refused;
        exact = drive_exact set m ps b v law curves room n k _ refused;
        untouched = λ f e. absurd (cc);
        driven = λ e. record {
          responses = c.in-Ok.ensures.times;
          ruled = ruled;
          own = c.run.ensures.own;
          rest = c.run.ensures.rest;
          kept = subst (KeptThroughout sys) (sym ruled) (keeps set m ps b v law curves (accepted_by set m ps b v law curves room found) cs);
        };
      };
      machine = (
        subst (λ (o : g.row.O.Denot). ByOrder c.run.new.machine.dispatcher.layout (before o)) (sym on.order) (subst (λ (l : Layout). ByOrder l (before first.order)) (sym on.layout) c.start-machine.ensures.ranked),
        ap (λ (l : Layout). l.set) on.layout ∙ carried.0 ∙ held.0,
        ap (λ (l : Layout). l.processors) on.layout ∙ procs,
        ap (λ (l : Layout). parts_of l.list) on.layout ∙ listed,
        on.order ∙ ordered,
        (λ i L h. on.curves i L h ∙ same_curves i L h),
        state_from_start before curve left sys first alike fresh cs (state_of c.run.new.machine left) c.run.ensures.state,
      );
    }
