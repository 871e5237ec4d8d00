-- Windows, one part further.
use Rattle.std.proofs.Common.{◌≡◌, ℕ, ◌+◌, ◌-◌, ◌≤◌, Bool, true, false, cond, leb, List, [], ◌∷◌, ◌++◌, length, take, drop, IfSome, Some, None, Ok, Err, Option, Result, sym, refl, ap, ◌∙◌, arith}
use Rattle.std.specs.Bool.{then_some}
use Rattle.std.proofs.lemmas.Slice.{between_to_end}
use Rattle.std.proofs.lemmas.Bool.{le-leb, leb-true}
use Rattle.schedule.specs.declared.Part.{Part}
use Rattle.schedule.specs.Layout.{System, span_of}
use Rattle.plan.specs.Responses.{Least}
use Rattle.parts.specs.declared.fault.PlanFault.{PlanFault}
use Rattle.parts.specs.declared.fault.PlanFault.TheVariants.{Squeezed}
use Rattle.spa2.specs.Placing.{Tasks}
use Rattle.spa2.specs.Windows.{has_part, with_own_window, one_or_more, window_of, windowed_from}
use Rattle.spa2.proofs.Keeping.{err_never}

-- A window that is 1 or more anyway stays as it is.
some_stays : (r : Option ℕ) → IfSome r (λ w. 1 ≤ w) → one_or_more r ≡ r
some_stays None h = refl
some_stays (Some w) h = ap (λ (b : Bool). then_some b w) (le-leb 1 w h)

-- A window that is there is the one asked of, and is 1 or more.
pub one_or_more_is : (r : Option ℕ) (w : ℕ) → one_or_more r ≡ Some w → (r ≡ Some w) × (1 ≤ w)
one_or_more_is None w e = absurd (let z : ◌≡◌ {A = ℕ} 0 1 = cc in omega arith)
one_or_more_is (Some v) w e = go (leb 1 v) refl e
  where
    go : (b : Bool) → leb 1 v ≡ b → then_some b v ≡ Some w → (◌≡◌ {A = Option ℕ} (Some v) (Some w)) × (1 ≤ w)
    go true h s = let same : v ≡ w = cc in (s, omega (arith, leb-true 1 v h, same))
    go false h s = absurd (let z : ◌≡◌ {A = ℕ} 0 1 = cc in omega arith)

-- A response time is 1 or more.
pub least_some : (sys : System) (p : Part) (limit : ℕ) (r : Option ℕ) → Least sys p limit r → IfSome r (λ w. 1 ≤ w)
least_some sys p limit None h = tt
least_some sys p limit (Some w) h = h.0.0

-- What was asked of the parts behind the done ones, cut out of the list.
pub asked_later : (i n : ℕ) (all ps done : List Part) (b : Bool) → n ≡ length done → all ≡ ps →
    b ≡ has_part i (take (length all - (n + 1)) (drop (n + 1) all)) → b ≡ has_part i (drop (length done + 1) ps)
asked_later i n all ps done b en ea e =
    let end : length all ≤ length all = omega arith in
    e ∙ (ap (λ (qs : List Part). has_part i qs) (between_to_end all (n + 1) (length all) end)
    ∙ (ap (λ (qs : List Part). has_part i (drop (n + 1) qs)) ea ∙ ap (λ (k : ℕ). has_part i (drop (k + 1) ps)) en))

module _ (t : Tasks) (respond : Part → ℕ → Option ℕ) where
  pub window_follows : (done : List Part) (p : Part) (rest : List Part) (r : Option ℕ) → has_part p.task rest ≡ true →
      r ≡ respond p (t.period p.task) → IfSome r (λ w. 1 ≤ w) → r ≡ window_of t respond done p rest
  window_follows done p rest r e same some =
      sym (some_stays r some) ∙ (ap (λ (o : Option ℕ). one_or_more o) same
      ∙ sym (ap (λ (b : Bool). one_or_more (cond b (respond p (t.period p.task)) (Some (t.period p.task - span_of done p.task)))) e))

  pub window_last : (done : List Part) (p : Part) (rest : List Part) → has_part p.task rest ≡ false →
      window_of t respond done p rest ≡ one_or_more (Some (t.period p.task - span_of done p.task))
  window_last done p rest e =
      ap (λ (b : Bool). one_or_more (cond b (respond p (t.period p.task)) (Some (t.period p.task - span_of done p.task)))) e

  -- What comes of the parts once the first of them has its window, or has none.
  abbrev onward : List Part → Part → List Part → Option ℕ → Result (List Part) PlanFault
  onward done p rest o = elim o [
    | None ↦ Err (Squeezed (length done))
    | Some w ↦ windowed_from t respond (done ++ (with_own_window p w ∷ [])) rest
  ]

  -- Where all parts get windows, the first of them does, and the others follow.
  pub windowed_next : (done : List Part) (p : Part) (rest qs : List Part) → windowed_from t respond done (p ∷ rest) ≡ Ok qs →
      (w : ℕ) × (window_of t respond done p rest ≡ Some w) × (windowed_from t respond (done ++ (with_own_window p w ∷ [])) rest ≡ Ok qs)
  windowed_next done p rest qs e = go (window_of t respond done p rest) refl e
    where
      go : (o : Option ℕ) → window_of t respond done p rest ≡ o → onward done p rest o ≡ Ok qs →
          (w : ℕ) × (window_of t respond done p rest ≡ Some w) × (windowed_from t respond (done ++ (with_own_window p w ∷ [])) rest ≡ Ok qs)
      go None h f = absurd (err_never (Squeezed (length done)) qs f)
      go (Some w) h f = (w, h, f)
