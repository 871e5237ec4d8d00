-- A call that obeys the tick rule goes on with the life of a machine, and keeps the promise.
use Rattle.std.proofs.Common.{◌≡◌, ℕ, ◌<◌, Bool, List, [], ◌∷◌, ◌++◌, length, None, Option, sym, refl, ap, ◌∙◌, subst, arith}
use mathlib.Core.Path.{fun_ext}
use Rattle.std.specs.Option.{option_or, option_map}
use Rattle.schedule.specs.declared.Part.{Part}
use Rattle.schedule.specs.Layout.{System}
use Rattle.schedule.specs.Promise.{KeptThroughout}
use Rattle.schedule.specs.Sameness.{Same}
use Rattle.schedule.specs.TickRule.{State, Call, Answer, History, history, state_after, started, answers, after_call}
use Rattle.schedule.proofs.Histories.{history_snoc, state_snoc, same_answers, same_after, same_trans}
use Rattle.schedule.proofs.Theorems.{sound_throughout}
use Rattle.tasks.specs.Arrivals.{SameCurves}
use Rattle.tasks.specs.Numbers.{as_numbered}
use Rattle.tasks.specs.Searches.{first_where}
use Rattle.tasks.specs.Sets.{count_of}
use Rattle.tasks.specs.declared.order.TaskKey.{TaskKey}
use Rattle.tasks.specs.declared.set.TaskSet.{TaskSet}
use Rattle.plan.specs.Checks.{verdict, number_fault, overlap, late, earlier_fault, late_fault}
use Rattle.parts.specs.Parts.{PartList, parts_of}
use Rattle.plan.specs.Systems.{system}
use Rattle.parts.specs.declared.fault.PlanFault.{PlanFault}
use Rattle.parts.specs.declared.fault.PlanFault.TheVariants.{Overlap, Late}
use Rattle.plan.proofs.Passing.{or_none}
use Rattle.tasks.specs.Orders.{LawfulOrder}
use Rattle.plan.proofs.Verdicts.{LawfulCurves, laid_out, in_time}
use Rattle.machine.specs.declared.layout.Layout.{Layout}
use Rattle.machine.specs.declared.Machine.{Machine}
use Rattle.machine.specs.Layouts.{ByOrder}
use Rattle.machine.specs.Life.{Lived, Lives, LifeGoesOn}
use Rattle.machine.specs.Meaning.{laid_system, system_of, state_of, Obeyed, Ranked, Obeys, GoesOn}

-- A machine that has just been started has lived nothing.
pub born : (sys : System) (s : State) → Same sys s (started sys) → Lived sys s []
born sys s e = ([], refl, e)

-- One call more.
pub lived_on : (sys : System) (old new : State) (c : Call) (told : Answer) → Obeyed sys old c told new → (h : History) → Lived sys old h → Lived sys new (h ++ ((c, told) ∷ []))
lived_on sys old new c told obeyed h lived =
    let cs = lived.0 in
    let now = state_after sys (started sys) cs in
    let said : answers sys now c ≡ told = sym (same_answers sys old now lived.2 c) ∙ sym obeyed.answered in (
      cs ++ (c ∷ []),
      ap {B = History} (λ (x : History). x ++ ((c, told) ∷ [])) lived.1
          ∙ ap {B = History} (λ (a : Answer). history sys (started sys) cs ++ ((c, a) ∷ [])) (sym said)
          ∙ sym (history_snoc sys (started sys) cs c),
      subst (Same sys new) (sym (state_snoc sys (started sys) cs c)) (same_trans sys new (after_call sys old c) (after_call sys now c) obeyed.state (same_after sys old now lived.2 c)),
    )

-- A history that was lived under an accepted plan keeps the promise.
pub lived_kept : (set : TaskSet) (m : ℕ) (ps : List Part) (before : TaskKey → TaskKey → Bool) (curve : ℕ → ℕ → ℕ) → LawfulOrder before → LawfulCurves curve →
    verdict set m ps before curve ≡ None → (s : State) (h : History) → Lived (system set m ps before curve) s h → KeptThroughout (system set m ps before curve) h
lived_kept set m ps before curve order_law curve_law accepted s h lived =
    let parts = or_none (earlier_fault set m ps before curve) (late_fault set m ps before curve) accepted in
    subst (KeptThroughout (system set m ps before curve)) (sym lived.1)
    (sound_throughout (system set m ps before curve) (laid_out set m ps before curve order_law curve_law parts.0) (in_time set m ps before curve parts.1) lived.0)

-- Curves that are the same make the same system.
pub same_system : (set : TaskSet) (m : ℕ) (ps : List Part) (before : TaskKey → TaskKey → Bool) (old new : ℕ → ℕ → ℕ) → SameCurves old new → system set m ps before old ≡ system set m ps before new
same_system set m ps before old new same =
    let build : (ℕ → ℕ → ℕ) → System = λ f. record {
      tasks = (system set m ps before old).tasks;
      procs = m;
      costs = (system set m ps before old).costs;
      parts = ps;
      before = (system set m ps before old).before;
      curve = f;
    } in
    let at : (i : ℕ) → old (as_numbered i) ≡ new (as_numbered i) = λ i. let low : as_numbered i < 32 = omega arith in fun_ext (λ L. sym (same (as_numbered i) L low)) in
    ap build (fun_ext at)

-- And the same verdict.
pub same_verdict : (set : TaskSet) (m : ℕ) (ps : List Part) (before : TaskKey → TaskKey → Bool) (old new : ℕ → ℕ → ℕ) → SameCurves old new → verdict set m ps before old ≡ verdict set m ps before new
same_verdict set m ps before old new same =
    let judge : System → Option PlanFault = λ sys.
    option_or (option_or (number_fault set m ps) (option_map Overlap (first_where (overlap sys) (count_of set)))) (option_map Late (first_where (late sys) (length ps))) in
    ap judge (same_system set m ps before old new same)

-- Equal plans with the same curves have the same verdict.
pub same_plan : (set set' : TaskSet) (m m' : ℕ) (list list' : PartList) (before before' : TaskKey → TaskKey → Bool) (curve curve' : ℕ → ℕ → ℕ) →
    set' ≡ set → m' ≡ m → list' ≡ list → before' ≡ before → SameCurves curve curve' → verdict set m (parts_of list) before curve ≡ verdict set' m' (parts_of list') before' curve'
same_plan set set' m m' list list' before before' curve curve' es em el eb same =
    same_verdict set m (parts_of list) before curve curve' same
    ∙ ap (λ (b : TaskKey → TaskKey → Bool). verdict set m (parts_of list) b curve') (sym eb)
    ∙ ap (λ (x : PartList). verdict set m (parts_of x) before' curve') (sym el)
    ∙ ap (λ (x : ℕ). verdict set x (parts_of list') before' curve') (sym em)
    ∙ ap (λ (x : TaskSet). verdict x m' (parts_of list') before' curve') (sym es)

-- What a call did to the layout, the order and the curves.
module _ (l l' : Layout) (before before' : TaskKey → TaskKey → Bool) (curve curve' : ℕ → ℕ → ℕ) (same_layout : l' ≡ l) (same_before : before' ≡ before) (same : SameCurves curve curve') where
  pub system_kept : laid_system l before curve ≡ laid_system l' before' curve'
  system_kept =
      same_system l.set l.processors (parts_of l.list) before curve curve' same
      ∙ ap (λ (b : TaskKey → TaskKey → Bool). laid_system l b curve') (sym same_before)
      ∙ ap (λ (x : Layout). laid_system x before' curve') (sym same_layout)

  pub verdict_kept : verdict l.set l.processors (parts_of l.list) before curve ≡ verdict l'.set l'.processors (parts_of l'.list) before' curve'
  verdict_kept =
      same_verdict l.set l.processors (parts_of l.list) before curve curve' same
      ∙ ap (λ (b : TaskKey → TaskKey → Bool). verdict l.set l.processors (parts_of l.list) b curve') (sym same_before)
      ∙ ap (λ (x : Layout). verdict x.set x.processors (parts_of x.list) before' curve') (sym same_layout)

  pub order_kept : ByOrder l before → ByOrder l' before'
  order_kept ranked = subst (λ (x : Layout). ByOrder x before') (sym same_layout) (subst (ByOrder l) (sym same_before) ranked)

module _ {O R : Type 0} (before : O → TaskKey → TaskKey → Bool) (curve left : R → ℕ → ℕ → ℕ) where
  module _ (old new : Machine O R) (c : Call) (told : Answer) (order_law : LawfulOrder (before old.order)) (curve_law : LawfulCurves (curve old.rule)) (goes : GoesOn old new curve)
      (obeyed : Ranked old before → Obeys old new before curve left c told) where
    same_before : before new.order ≡ before old.order
    same_before = ap before goes.order

    more : (h : History) → Lives old before curve left h → Lived (system_of old before curve) (state_of new left) (h ++ ((c, told) ∷ []))
    more h lives = lived_on (system_of old before curve) (state_of old left) (state_of new left) c told (obeyed lives.0) h lives.1

    pub life_goes_on : LifeGoesOn old new before curve left c told
    life_goes_on =
        let l = old.dispatcher.layout in
        let kept_system = system_kept l new.dispatcher.layout (before old.order) (before new.order) (curve old.rule) (curve new.rule) goes.layout same_before goes.curves in
        record {
          lives = λ h lives. (
            order_kept l new.dispatcher.layout (before old.order) (before new.order) (curve old.rule) (curve new.rule) goes.layout same_before goes.curves lives.0,
            subst (λ (sys : System). Lived sys (state_of new left) (h ++ ((c, told) ∷ []))) kept_system (more h lives),
          );
          kept = λ accepted h lives.
              subst (λ (sys : System). KeptThroughout sys (h ++ ((c, told) ∷ []))) kept_system
              (lived_kept l.set l.processors (parts_of l.list) (before old.order) (curve old.rule) order_law curve_law accepted (state_of new left) (h ++ ((c, told) ∷ [])) (more h lives));
          accepted = λ accepted.
              sym (verdict_kept l new.dispatcher.layout (before old.order) (before new.order) (curve old.rule) (curve new.rule) goes.layout same_before goes.curves) ∙ accepted;
        }

  -- A call that is refused changes nothing.
  pub refused_life : (m : Machine O R) (c : Call) (told : Answer) → LawfulOrder (before m.order) → LawfulCurves (curve m.rule) → Obeys m m before curve left c told → LifeGoesOn m m before curve left c told
  refused_life m c told order_law curve_law obeyed = life_goes_on m m c told order_law curve_law (record { layout = refl; order = refl; curves = λ i L h. refl }) (λ ranked. obeyed)
