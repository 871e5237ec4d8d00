-- What holds of the windows.
use Rattle.std.proofs.Common.{◌≡◌, ℕ, zero, suc, ◌+◌, ◌-◌, ◌≤◌, Bool, true, false, cond, ◌||◌, eqb, leb, List, [], ◌∷◌, ◌++◌, Some, Ok, Option, sym, ap, ◌∙◌, subst, inl, inr, arith}
use Rattle.std.proofs.lemmas.Bool.{or_cases, eqb-true, eq-eqb, ne_eqb, cases_eq}
use Rattle.schedule.specs.declared.Part.{Part}
use Rattle.schedule.specs.Layout.{System, span_of, demand}
use Rattle.tasks.specs.Searches.{first_from}
use Rattle.plan.specs.Responses.{response_within}
use Rattle.spa2.specs.Placing.{Tasks}
use Rattle.spa2.specs.Windows.{has_part, with_own_window, window_of, windowed_from}
use Rattle.spa2.proofs.Keeping.{ok_same}
use Rattle.spa2.proofs.Laws.Each.{Each, each_push, total_push, has_part_push}
use Rattle.spa2.proofs.Windowing.{one_or_more_is, window_last, windowed_next}

-- A search of n numbers after a finds none above a + n.
search_most : (test : ℕ → Bool) (a n w : ℕ) → first_from test (suc a) n ≡ Some w → w ≤ a + n
search_most test a zero w e = absurd (let z : ◌≡◌ {A = ℕ} 0 1 = cc in omega arith)
search_most test a (suc n) w e = go (test (suc a)) e (λ f. search_most test (suc a) n w f)
  where
    go : (b : Bool) → cond b (Some (suc a)) (first_from test (suc (suc a)) n) ≡ Some w → (first_from test (suc (suc a)) n ≡ Some w → w ≤ suc a + n) → w ≤ a + suc n
    go true f most = let same : suc a ≡ w = cc in omega arith
    go false f most = omega (arith, most f)

-- A response time is no longer than the limit of its search.
pub response_most : (sys : System) (p : Part) (L w : ℕ) → response_within sys p L ≡ Some w → w ≤ L
response_most sys p L w e = omega (arith, search_most (λ t. leb (demand sys p t) t) 0 L w e)

-- The window is 1 to the period.
abbrev pub Fit : Tasks → Part → Type 0
Fit t q = (1 ≤ q.window) × (q.window ≤ t.period q.task)

-- The windows of a task whose last part has its window add up to the period.
abbrev pub Spanned : Tasks → List Part → List Part → Type 0
Spanned t done rest = (i : ℕ) → has_part i done ≡ true → has_part i rest ≡ false → span_of done i ≡ t.period i

module _ (t : Tasks) (respond : Part → ℕ → Option ℕ) (most : (p : Part) (L w : ℕ) → respond p L ≡ Some w → w ≤ L) where
  window_fits : (done : List Part) (p : Part) (rest : List Part) (w : ℕ) → window_of t respond done p rest ≡ Some w → (1 ≤ w) × (w ≤ t.period p.task)
  window_fits done p rest w e =
      let own = one_or_more_is (cond (has_part p.task rest) (respond p (t.period p.task)) (Some (t.period p.task - span_of done p.task))) w e in
      (own.1, go (has_part p.task rest) own.0)
    where
      go : (b : Bool) → cond b (respond p (t.period p.task)) (Some (t.period p.task - span_of done p.task)) ≡ Some w → w ≤ t.period p.task
      go true f = most p (t.period p.task) w f
      go false f = let same : t.period p.task - span_of done p.task ≡ w = cc in omega arith

  spanned_push : (done : List Part) (p : Part) (rest : List Part) (w : ℕ) → window_of t respond done p rest ≡ Some w → Spanned t done (p ∷ rest) →
      Spanned t (done ++ (with_own_window p w ∷ [])) rest
  spanned_push done p rest w got h i a b =
      let q = with_own_window p w in
      let some = (window_fits done p rest w got).0 in
      let more : span_of (done ++ (q ∷ [])) i ≡ span_of done i + cond (eqb p.task i) w 0 = total_push (λ r. cond (eqb r.task i) r.window 0) done q in
      elim (cases_eq p.task i) [
        | inl same ↦
            let none : has_part p.task rest ≡ false = subst (λ (k : ℕ). has_part k rest ≡ false) (sym same) b in
            let left = (one_or_more_is (Some (t.period p.task - span_of done p.task)) w (sym (window_last t respond done p rest none) ∙ got)).0 in
            let taken : t.period p.task - span_of done p.task ≡ w = cc in
            let last : w ≡ t.period i - span_of done i = sym taken ∙ ap (λ (k : ℕ). t.period k - span_of done k) same in
            let own : cond (eqb p.task i) w 0 ≡ w = ap (λ (v : Bool). cond v w 0) (eq-eqb p.task i same) in
            omega (arith, more, last, own, some)
        | inr other ↦
            let none : cond (eqb p.task i) w 0 ≡ 0 = ap (λ (v : Bool). cond v w 0) (ne_eqb p.task i other) in
            let before : has_part i done ≡ true = elim (or_cases (has_part i done) (eqb p.task i) (sym (has_part_push i done q) ∙ a)) [
              | inl d ↦ d
              | inr d ↦ absurd (other (eqb-true p.task i d))
            ] in
            let after : has_part i (p ∷ rest) ≡ false = ap (λ (v : Bool). v || has_part i rest) (ne_eqb p.task i other) ∙ b in
            omega (arith, more, none, h i before after)
      ]

  -- All parts have their windows.
  pub windowed_well : (rest done qs : List Part) → Each (Fit t) done → Spanned t done rest → windowed_from t respond done rest ≡ Ok qs → Each (Fit t) qs × Spanned t qs []
  windowed_well [] done qs f h e = subst (λ (rs : List Part). Each (Fit t) rs × Spanned t rs []) (ok_same done qs e) (f, h)
  windowed_well (p ∷ rest) done qs f h e =
      let next = windowed_next t respond done p rest qs e in
      let q = with_own_window p next.0 in
      windowed_well rest (done ++ (q ∷ [])) qs (each_push (Fit t) done q f (window_fits done p rest next.0 next.1))
      (spanned_push done p rest next.0 next.1 h) next.2
