-- The verdict is exact: a plan that passes the checks before lateness is refused as late exactly when some calls make a part late.
use Rattle.std.proofs.Common.{◌≡◌, ℕ, ◌<◌, Bool, true, false, ltb, List, length, Some, None, Err, Option, Result, sym, refl, ap, subst, arith}
use Rattle.std.specs.Option.{option_or, option_map}
use Rattle.std.specs.Bool.{then_some}
use Rattle.schedule.specs.declared.Part.{Part}
use Rattle.schedule.specs.Curves.{Subadditive}
use Rattle.schedule.specs.Layout.{System}
use Rattle.schedule.proofs.Theorems.{exact}
use Rattle.tasks.specs.Numbers.{as_numbered}
use Rattle.tasks.specs.Searches.{first_where}
use Rattle.tasks.specs.Sets.{count_of}
use Rattle.tasks.specs.declared.order.TaskKey.{TaskKey}
use Rattle.tasks.specs.declared.set.TaskSet.{TaskSet}
use Rattle.parts.specs.declared.fault.PlanFault.{PlanFault}
use Rattle.parts.specs.declared.fault.PlanFault.TheVariants.{Late, Cramped}
use Rattle.plan.specs.Answers.{refused_or, check_answer, CanBeLate, ExactlyLate}
use Rattle.plan.specs.Checks.{late, earlier_fault, late_fault}
use Rattle.parts.specs.Faults.{shown}
use Rattle.plan.specs.Systems.{system}
use Rattle.tasks.specs.Orders.{LawfulOrder}
use Rattle.plan.proofs.Verdicts.{LawfulCurves, laid_out, in_time, not_late}
use Rattle.sheet.specs.declared.fault.Layer.TheVariants as Layers

-- A refusal with number 10 of layer K.
abbrev AsLate : Result ℕ PlanFault → Type 0
AsLate r = (f : PlanFault) × (r ≡ Err f) × ((shown f).layer ≡ Layers.Plan) × ((shown f).number ≡ 10)

-- A buffer that is too short is no refusal as late.
cramped_not_late : (b : Bool) (n : ℕ) → AsLate (refused_or (then_some b (Cramped n)) n) → ⊥
cramped_not_late true n h =
    let same : Cramped n ≡ h.0 = cc h.1 in
    let number : 17 ≡ (shown h.0).number = ap (λ (f : PlanFault). (shown f).number) same in
    omega (arith, number, h.3)
cramped_not_late false n h = let z : ◌≡◌ {A = ℕ} 0 1 = cc h.1 in omega arith

module _ (set : TaskSet) (m : ℕ) (ps : List Part) (before : TaskKey → TaskKey → Bool) (curve : ℕ → ℕ → ℕ) (order_law : LawfulOrder before) (curve_law : LawfulCurves curve) where
  abbrev sys : System
  sys = system set m ps before curve

  subadditive : ((i : ℕ) → i < count_of set → Subadditive (curve i)) → (i : ℕ) → i < count_of set → Subadditive (sys.curve i)
  subadditive sub i h = let few = set.few in subst (λ (k : ℕ). Subadditive (curve k)) (the_same i (omega arith)) (sub i h)
    where
      the_same : (i : ℕ) → i < 32 → i ≡ as_numbered i
      the_same i h = omega arith

  -- By what the check of lateness finds.
  by_late : (room : ℕ) (o : Option ℕ) → first_where (late sys) (length ps) ≡ o → earlier_fault set m ps before curve ≡ None →
      ((i : ℕ) → i < count_of set → Subadditive (curve i)) →
      (AsLate (refused_or (option_or (option_map Late o) (then_some (ltb room (length ps)) (Cramped (length ps)))) (length ps)) → CanBeLate set m ps before curve)
      × (CanBeLate set m ps before curve → AsLate (refused_or (option_or (option_map Late o) (then_some (ltb room (length ps)) (Cramped (length ps)))) (length ps)))
  by_late room None e passes sub =
      let laid = laid_out set m ps before curve order_law curve_law passes in
      let timely = in_time set m ps before curve (ap (option_map Late) e) in (
        (λ h. absurd (cramped_not_late (ltb room (length ps)) (length ps) h)),
        (λ can. absurd ((exact sys laid (subadditive sub)).1 can.0 can.1 timely)),
      )
  by_late room (Some k) e passes sub =
      let laid = laid_out set m ps before curve order_law curve_law passes in (
        (λ h. let calls = (exact sys laid (subadditive sub)).0 (λ timely.
            let none = not_late set m ps before curve timely in
            let some = ap (option_map Late) e in
            let z : ◌≡◌ {A = ℕ} 0 1 = cc in omega arith) in
            (calls.0, calls.1)),
        (λ can. (Late k, refl, refl, refl)),
      )

  pub exactly_late : (room : ℕ) → ExactlyLate set m ps before curve (check_answer set m ps before curve room)
  exactly_late room passes sub =
      let split = by_late room (first_where (late sys) (length ps)) refl passes sub in
      subst (λ (o : Option PlanFault). (AsLate (refused_or (option_or (option_or o (late_fault set m ps before curve)) (then_some (ltb room (length ps)) (Cramped (length ps)))) (length ps)) → CanBeLate set m ps before curve)
      × (CanBeLate set m ps before curve → AsLate (refused_or (option_or (option_or o (late_fault set m ps before curve)) (then_some (ltb room (length ps)) (Cramped (length ps)))) (length ps)))) (sym passes) split

  -- The same of an answer that is the check's.
  pub exact_answer : (room : ℕ) (r : Result ℕ PlanFault) → r ≡ check_answer set m ps before curve room → ExactlyLate set m ps before curve r
  exact_answer room r e = subst (ExactlyLate set m ps before curve) (sym e) (exactly_late room)
