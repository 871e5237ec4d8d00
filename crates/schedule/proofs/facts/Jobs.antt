-- A job: what a tick makes of it, where it can stand, and what it still has to run in chosen segments.
use Rattle.std.proofs.Common.{◌≡◌, ℕ, ◌+◌, ◌-◌, ◌<◌, ◌≤◌, Bool, true, false, cond, eqb, ◌⊎◌, List, [], ◌∷◌, ◌++◌, sym, refl, ap, ◌∙◌, subst, inl, inr, append_assoc, arith}
use Rattle.std.proofs.lemmas.Bool.{cases_eq, eqb-true, eqb-false, eq-eqb, ne_eqb, cond-true, cond-false, cond_both}
use Rattle.schedule.specs.declared.Part.{Part}
use Rattle.schedule.specs.Lists.{◌∈◌, total, one_if}
use Rattle.schedule.specs.Layout.{Segment, segments, System, LaidOut}
use Rattle.schedule.specs.TickRule.{Job, closed, open_at, hand_over, aged}
use Rattle.schedule.proofs.facts.Lists.{Each, each_at, each_map}
use Rattle.schedule.proofs.facts.Segments.{segment_of, part_segment, segment_scaled, segment_next, Spread, segments_spread}

-- A tick hands a job over, where nothing is left of its segment or the segment is at its end, or takes it on.
pub aged_either : (r : Bool) (age left : ℕ) (g : Segment) (gs : List Segment) (P : Job → Type 0) →
    ((left - one_if r ≡ 0) ⊎ (age + 1 ≡ g.end) → P (hand_over (age + 1) gs)) →
    ((left - one_if r ≡ 0 → ⊥) → (age + 1 ≡ g.end → ⊥) → P (open_at (age + 1) (left - one_if r) g gs)) →
    P (aged r (open_at age left g gs))
aged_either r age left g gs P over on =
    cond_both (eqb (left - one_if r) 0) (hand_over (age + 1) gs) _ P (λ e. over (inl (eqb-true _ _ e)))
    (λ e. cond_both (eqb (age + 1) g.end) (hand_over (age + 1) gs) _ P (λ d. over (inr (eqb-true _ _ d))) (λ d. on (eqb-false _ _ e) (eqb-false _ _ d)))

-- A tick in which the job is not late hands it over with nothing left.
pub aged_on_time : (r : Bool) (age left : ℕ) (g : Segment) (gs : List Segment) (P : Job → Type 0) → ((left - one_if r ≡ 0 → ⊥) → age + 1 < g.end) →
    (left - one_if r ≡ 0 → P (hand_over (age + 1) gs)) →
    ((left - one_if r ≡ 0 → ⊥) → age + 1 < g.end → P (open_at (age + 1) (left - one_if r) g gs)) →
    P (aged r (open_at age left g gs))
aged_on_time r age left g gs P timely over on =
    elim (cases_eq (left - one_if r) 0) [
      | inl z ↦ aged_either r age left g gs P (λ w. over z) (λ n e. absurd (n z))
      | inr nz ↦ aged_either r age left g gs P
          (λ w. absurd (elim w [ inl z ↦ nz z | inr e ↦ omega (arith, timely nz) ]))
          (λ n e. on nz (timely nz))
    ]

-- Where an open job can stand: at one of its task's segments, with some of its cost left, before its end.
pub record Shaped (segs : List Segment) (age left : ℕ) (g : Segment) (gs : List Segment) : Type 0 where
  pub done : List Segment
  pub place : segs ≡ done ++ (g ∷ gs)
  pub some : 1 ≤ left
  pub most : left ≤ g.cost
  pub early : age < g.end

abbrev pub Shape : List Segment → Job → Type 0
Shape segs closed = Unit {0}
Shape segs (open_at age left g gs) = Shaped segs age left g gs

pub shaped_in : (segs : List Segment) (age left : ℕ) (g : Segment) (gs : List Segment) → Shaped segs age left g gs → g ∈ segs
shaped_in segs age left g gs sh = (sh.done, gs, sh.place)

-- What the segments of a task keep.
pub record Linked (segs : List Segment) : Type 0 where
  pub next : (done gs : List Segment) (g h : Segment) → segs ≡ done ++ (g ∷ (h ∷ gs)) → g.end ≡ h.begin
  pub each : (g : Segment) → g ∈ segs → (1 ≤ g.cost) × (g.begin < g.end)

pub linked : (sys : System) → LaidOut sys → (i : ℕ) → Linked (segments sys.parts i)
linked sys lo i = record {
  next = λ done gs g h e. segment_next sys lo i done gs g h e;
  each = λ g m. ((segment_scaled sys lo i g m).0, (segment_scaled sys lo i g m).1);
}

-- Where a job hands over, the next segment has yet to begin.
pub next_later : (segs : List Segment) → Linked segs → (age left : ℕ) (g h : Segment) (gs : List Segment) → Shaped segs age left g (h ∷ gs) → (age + 1 ≤ h.begin) × (h ∈ segs)
next_later segs lk age left g h gs sh =
    let n : g.end ≡ h.begin = lk.next sh.done gs g h sh.place in
    let l : age + 1 ≤ h.begin = omega (arith, sh.early) in
    (l, (sh.done ++ (g ∷ []), gs, sh.place ∙ sym (append_assoc sh.done (g ∷ []) (h ∷ gs))))

shape_over : (segs : List Segment) → Linked segs → (age left : ℕ) (g : Segment) (gs : List Segment) → Shaped segs age left g gs → Shape segs (hand_over (age + 1) gs)
shape_over segs lk age left g [] sh = tt
shape_over segs lk age left g (h ∷ gs) sh =
    let n = next_later segs lk age left g h gs sh in
    let e = lk.each h n.1 in
    record { done = sh.done ++ (g ∷ []); place = sh.place ∙ sym (append_assoc sh.done (g ∷ []) (h ∷ gs)); some = e.0; most = omega arith; early = omega (arith, n.0, e.1) }

-- A tick leaves a job where it can stand, and so does a release.
pub shape_aged : (segs : List Segment) → Linked segs → (r : Bool) (j : Job) → Shape segs j → Shape segs (aged r j)
shape_aged segs lk r closed sh = tt
shape_aged segs lk r (open_at age left g gs) sh =
    aged_either r age left g gs (Shape segs) (λ w. shape_over segs lk age left g gs sh)
    (λ n e. record { done = sh.done; place = sh.place; some = omega arith; most = omega (arith, sh.most); early = omega (arith, sh.early) })

pub shape_opened : (segs : List Segment) → Linked segs → Shape segs (hand_over 0 segs)
shape_opened [] lk = tt
shape_opened (g ∷ gs) lk =
    let e : (1 ≤ g.cost) × (g.begin < g.end) = lk.each g ([], gs, refl) in
    record { done = []; place = refl; some = e.0; most = omega arith; early = omega arith }

-- The cost of the segments that w picks.
abbrev pub on : (Segment → Bool) → List Segment → ℕ
on w gs = total (λ g. cond (w g) g.cost 0) gs

-- What a job has still to run in the segments that w picks.
abbrev pub owed : (Segment → Bool) → Job → ℕ
owed w closed = 0
owed w (open_at age left g gs) = cond (w g) left 0 + on w gs

pub owed_hand_over : (w : Segment → Bool) (age : ℕ) (gs : List Segment) → owed w (hand_over age gs) ≡ on w gs
owed_hand_over w age [] = refl
owed_hand_over w age (g ∷ gs) = refl

-- Where w picks every segment, it picks the whole cost.
pub on_every : (w : Segment → Bool) (gs : List Segment) → Each (λ g. w g ≡ true) gs → on w gs ≡ total (λ g. g.cost) gs
on_every w [] h = refl
on_every w (g ∷ gs) h = let a : cond (w g) g.cost 0 ≡ g.cost = cond-true _ _ _ h.0 in omega (arith, on_every w gs h.1)

pub on_none : (w : Segment → Bool) (gs : List Segment) → Each (λ g. w g ≡ false) gs → on w gs ≡ 0
on_none w [] h = refl
on_none w (g ∷ gs) h = let a : cond (w g) g.cost 0 ≡ 0 = cond-false _ _ _ h.0 in omega (arith, on_none w gs h.1)

pub on_one : (w : Segment → Bool) (xs gs : List Segment) (g : Segment) → w g ≡ true → g.cost ≤ on w (xs ++ (g ∷ gs))
on_one w [] gs g h = let a : cond (w g) g.cost 0 ≡ g.cost = cond-true _ _ _ h in omega arith
on_one w (x ∷ xs) gs g h = omega (arith, on_one w xs gs g h)

-- The segments on processor q.
abbrev pub on_proc : ℕ → Segment → Bool
on_proc q g = eqb g.proc q

none_on : (q : ℕ) (gs : List Segment) → Each (λ h. h.proc ≡ q → ⊥) gs → Each (λ h. on_proc q h ≡ false) gs
none_on q gs h = each_map (λ h. h.proc ≡ q → ⊥) (λ h. on_proc q h ≡ false) (λ x n. ne_eqb _ _ n) gs h

-- The one segment on its processor.
pub on_apart : (xs gs : List Segment) (f : Segment) → Spread (xs ++ (f ∷ gs)) → on (on_proc f.proc) (xs ++ (f ∷ gs)) ≡ f.cost
on_apart [] gs f h =
    let a : cond (eqb f.proc f.proc) f.cost 0 ≡ f.cost = cond-true (eqb f.proc f.proc) f.cost 0 (eq-eqb f.proc f.proc refl) in
    omega (arith, on_none (on_proc f.proc) gs (none_on f.proc gs h.0))
on_apart (x ∷ xs) gs f h =
    let n = each_at (λ h. h.proc ≡ x.proc → ⊥) xs gs f h.0 in
    let a : cond (eqb x.proc f.proc) x.cost 0 ≡ 0 = cond-false _ _ _ (ne_eqb _ _ (λ e. n (sym e))) in
    omega (arith, on_apart xs gs f h.1)

-- Past a segment, nothing is on its processor.
pub past_apart : (xs gs : List Segment) (f : Segment) → Spread (xs ++ (f ∷ gs)) → Each (λ h. on_proc f.proc h ≡ false) gs
past_apart [] gs f h = none_on f.proc gs h.0
past_apart (x ∷ xs) gs f h = past_apart xs gs f h.1

-- The segments of a task on the processor of one of them: just that one.
pub on_segment : (sys : System) → LaidOut sys → (i : ℕ) (g : Segment) → g ∈ segments sys.parts i → on (on_proc g.proc) (segments sys.parts i) ≡ g.cost
on_segment sys lo i g m = ap (on (on_proc g.proc)) m.2 ∙ on_apart m.0 m.1 g (subst Spread m.2 (segments_spread sys lo i))

pub on_part : (sys : System) → LaidOut sys → (q : Part) → q ∈ sys.parts → on (on_proc q.processor) (segments sys.parts q.task) ≡ q.cost
on_part sys lo q m = on_segment sys lo q.task (segment_of sys.parts q) (part_segment sys lo q m)
