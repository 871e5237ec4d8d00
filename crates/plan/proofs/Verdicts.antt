-- What the verdict says of the system: a plan that passes the checks before lateness is laid out, and it passes lateness exactly when
-- every part is in time.
use Rattle.std.proofs.Common.{◌≡◌, ℕ, zero, suc, ◌+◌, ◌<◌, ◌≤◌, Bool, true, cond, leb, List, length, is_some, Some, None, Option, sym, ap, ◌∙◌, subst, inl, inr, arith}
use Rattle.std.specs.Option.{option_map}
use Rattle.std.proofs.lemmas.Bool.{cases_eq, ltb-false, not-false, not_from_true, leb-true, le-leb, cases_Bool, both_ways, cond-true, cond-false}
use Rattle.schedule.specs.declared.Part.{Part}
use Rattle.schedule.specs.Curves.{Curve}
use Rattle.schedule.specs.Layout.{System, LaidOut, InTime, Suffices, demand}
use Rattle.tasks.specs.Numbers.{as_numbered}
use Rattle.tasks.specs.Orders.{LawfulOrder}
use Rattle.tasks.specs.Searches.{first_from}
use Rattle.tasks.specs.Sets.{count_of}
use Rattle.tasks.specs.declared.order.TaskKey.{TaskKey}
use Rattle.tasks.specs.declared.set.TaskSet.{TaskSet}
use Rattle.tasks.proofs.Orderings.{ordered}
use Rattle.tasks.proofs.Searches.{none_where, first_none}
use Rattle.tasks.proofs.Sets.{cost_scaled}
use Rattle.parts.specs.declared.fault.PlanFault.TheVariants.{Late}
use Rattle.plan.specs.Checks.{part_at, overlap, late, earlier_fault, late_fault}
use Rattle.plan.specs.Responses.{response_within}
use Rattle.plan.specs.Systems.{system}
use Rattle.plan.proofs.Passing.{passed, or_none, map_none}
use Rattle.plan.proofs.Spans.{known_in, scaled_in, apart_in, placed, at_place}

-- The laws of an arrival rule's curves.
abbrev pub LawfulCurves : (ℕ → ℕ → ℕ) → Type 0
LawfulCurves curve = (i : ℕ) → i < 32 → Curve (curve i)

module _ (set : TaskSet) (m : ℕ) (ps : List Part) (before : TaskKey → TaskKey → Bool) (curve : ℕ → ℕ → ℕ) where
  abbrev sys : System
  sys = system set m ps before curve

  -- What passes the checks before lateness is laid out.
  pub laid_out : LawfulOrder before → LawfulCurves curve → earlier_fault set m ps before curve ≡ None → LaidOut (system set m ps before curve)
  laid_out order_law curve_law e =
      let a = or_none _ _ e in
      let h = passed set m ps a.0 in
      let exclusive = none_where (overlap sys) (count_of set) (map_none _ _ a.1) in
      record {
        few_tasks = set.few;
        few_parts = h.few_parts;
        ordered = ordered set before order_law;
        curves = λ i hi. curve_law (as_numbered i) (omega arith);
        known = known_in set m ps h;
        scaled = λ p mem. let s = scaled_in set m ps h p mem in (s.0, s.2, s.3);
        apart = apart_in set m ps h;
        working = λ i hi. (cost_scaled set i hi).0;
        summed = h.summed;
        exclusive = λ i hi. ltb-false 1 _ (exclusive i hi);
      }

  -- A search that finds a response time shows that one suffices.
  some_suffices : (q : Part) (limit : ℕ) → limit ≤ q.window → is_some (response_within sys q limit) ≡ true → (t : ℕ) × Suffices sys q t
  some_suffices q limit h e = go limit 1 (omega arith) (omega arith) e
    where
      go : (n t : ℕ) → 1 ≤ t → t + n ≤ 1 + limit → is_some (first_from (λ u. leb (demand sys q u) u) t n) ≡ true → (t : ℕ) × Suffices sys q t
      go zero t some fits e = let z : ◌≡◌ {A = ℕ} 0 1 = cc in absurd (omega arith)
      go (suc n) t some fits e = elim (cases_Bool (leb (demand sys q t) t)) [
        | inl y ↦ (t, (some, omega arith, leb-true _ _ y))
        | inr f ↦ go n (suc t) (omega arith) (omega arith) (subst (λ (b : Bool). is_some (cond b (Some t) (first_from (λ u. leb (demand sys q u) u) (suc t) n)) ≡ true) f e)
      ]

  -- Where some stretch suffices, the search finds one.
  found_some : (test : ℕ → Bool) (n t u : ℕ) → t ≤ u → u < t + n → test u ≡ true → is_some (first_from test t n) ≡ true
  found_some test zero t u a b e = absurd (omega arith)
  found_some test (suc n) t u a b e = elim (cases_Bool (test t)) [
    | inl y ↦ ap (λ (o : Option ℕ). is_some o) (cond-true (test t) (Some t) (first_from test (suc t) n) y)
    | inr f ↦ ap (λ (o : Option ℕ). is_some o) (cond-false (test t) (Some t) (first_from test (suc t) n) f) ∙ found_some test n (suc t) u (later t u a (λ q. both_ways (test t) f (subst (λ (x : ℕ). test x ≡ true) (sym q) e))) (omega arith) e
  ]
    where
      later : (t u : ℕ) → t ≤ u → (t ≡ u → ⊥) → suc t ≤ u
      later t u h ne = elim (cases_eq t u) [ inl q ↦ absurd (ne q) | inr o ↦ omega arith ]

  -- A plan without a late part is in time.
  pub in_time : late_fault set m ps before curve ≡ None → InTime (system set m ps before curve)
  in_time e q mem =
      let w = placed ps q mem in
      let on_time = not-false _ (none_where (late sys) (length ps) (map_none _ _ e) w.0 w.1) in
      some_suffices q q.window (omega arith) (subst (λ (p : Part). is_some (response_within sys p p.window) ≡ true) w.2 on_time)

  -- A plan in time has no late part.
  pub not_late : InTime (system set m ps before curve) → late_fault set m ps before curve ≡ None
  not_late timely =
      ap (option_map Late) (sym (first_none (late sys) (length ps) (λ k h.
      let q = part_at ps k in
      let t = timely q (at_place ps k h) in
      not_from_true _ (found_some _ q.window 1 t.0 t.1.0 (omega (arith, t.1.1)) (le-leb _ _ t.1.2)))))
