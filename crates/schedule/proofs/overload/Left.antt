-- What a job has yet to run on one processor: a tick without lateness loses none of it, and where it is not ready it has yet to begin.
use Rattle.std.proofs.Common.{◌≡◌, ℕ, ◌+◌, ◌-◌, ◌<◌, ◌≤◌, Bool, true, false, cond, eqb, ◌⊎◌, List, [], ◌∷◌, sym, ap, ◌∙◌, inl, inr, arith}
use Rattle.std.proofs.lemmas.Bool.{cases_Bool, cases_lt, eqb-true, eqb-false, cond-true, cond-false}
use Rattle.schedule.specs.declared.Part.{Part}
use Rattle.schedule.specs.Lists.{◌∈◌, one_if}
use Rattle.schedule.specs.Layout.{Segment, segments, System, LaidOut}
use Rattle.schedule.specs.TickRule.{Job, closed, open_at, ready_on, aged}
use Rattle.schedule.proofs.facts.Lists.{to_T, one_if_le, cond_at_most, in_here, in_there, total_append}
use Rattle.schedule.proofs.facts.Running.{ready_from}
use Rattle.schedule.proofs.facts.Segments.{begin_on, segment_of, part_segment, segment_same, later_begins, later_in}
use Rattle.schedule.proofs.facts.Jobs.{aged_either, Shaped, Shape, on, owed, owed_hand_over, on_proc}

-- What the job has left on processor p.
abbrev pub left_on : ℕ → Job → ℕ
left_on p j = owed (on_proc p) j

-- Only segments on p count.
on_some : (p : ℕ) (gs : List Segment) → 0 < on (on_proc p) gs → (g : Segment) × (g ∈ gs) × (g.proc ≡ p)
on_some p [] h = absurd (omega arith)
on_some p (g ∷ gs) h =
    elim (cases_Bool (eqb g.proc p)) [
      | inl e ↦ (g, in_here g gs, eqb-true g.proc p e)
      | inr e ↦
          let z : cond (eqb g.proc p) g.cost 0 ≡ 0 = cond-false (eqb g.proc p) g.cost 0 e in
          let r = on_some p gs (omega arith) in
          (r.0, in_there r.0 g gs r.1, r.2)
    ]

-- A tick without lateness loses no work: what was left on p is left still, or p ran it.
pub left_kept : (p : ℕ) (r : Bool) (a l : ℕ) (now : Segment) (later : List Segment) (c : ℕ) →
    (a + 1 ≡ now.end → l - one_if r ≡ 0) → (now.proc ≡ p → one_if r ≤ c) →
    left_on p (open_at a l now later) ≤ left_on p (aged r (open_at a l now later)) + c
left_kept p r a l now later c late h =
    aged_either r a l now later (λ j. left_on p (open_at a l now later) ≤ left_on p j + c)
    (λ w. let z : l - one_if r ≡ 0 = elim w [ inl z ↦ z | inr e ↦ late e ] in
    omega (arith, owed_hand_over (on_proc p) (a + 1) later, spent 0 (omega arith), cond_at_most (on_proc p now) 0))
    (λ n e. omega (arith, spent (l - one_if r) (omega arith)))
  where
    spent : (k : ℕ) → l ≤ k + one_if r → cond (on_proc p now) l 0 ≤ cond (on_proc p now) k 0 + c
    spent k e = elim (cases_Bool (on_proc p now)) [
      | inl t ↦ omega (arith, cond-true (on_proc p now) l 0 t, cond-true (on_proc p now) k 0 t, h (eqb-true now.proc p t))
      | inr t ↦ omega (arith, cond-false (on_proc p now) l 0 t)
    ]

-- What a tick ran on p is no longer left.
pub left_spent : (p : ℕ) (r : Bool) (a l : ℕ) (now : Segment) (later : List Segment) (c : ℕ) → 1 ≤ l →
    (now.proc ≡ p → c ≤ one_if r) → ((now.proc ≡ p → ⊥) → c ≡ 0) →
    left_on p (aged r (open_at a l now later)) + c ≤ left_on p (open_at a l now later)
left_spent p r a l now later c some h h' =
    aged_either r a l now later (λ j. left_on p j + c ≤ left_on p (open_at a l now later))
    (λ w. omega (arith, owed_hand_over (on_proc p) (a + 1) later, spent 0 (omega (arith, one_if_le r))))
    (λ n e. omega (arith, spent (l - one_if r) (omega arith)))
  where
    spent : (k : ℕ) → k + one_if r ≤ l → cond (on_proc p now) k 0 + c ≤ cond (on_proc p now) l 0
    spent k e = elim (cases_Bool (on_proc p now)) [
      | inl t ↦ omega (arith, cond-true (on_proc p now) l 0 t, cond-true (on_proc p now) k 0 t, h (eqb-true now.proc p t))
      | inr t ↦ omega (arith, cond-false (on_proc p now) k 0 t, h' (eqb-false now.proc p t))
    ]

-- What a job has left on p is at most what its task has there.
pub left_most : (sys : System) (i p : ℕ) (j : Job) → Shape (segments sys.parts i) j → left_on p j ≤ on (on_proc p) (segments sys.parts i)
left_most sys i p closed sh = omega arith
left_most sys i p (open_at a l now later) sh =
    let f : Segment → ℕ = λ h. cond (eqb h.proc p) h.cost 0 in
    let e : on (on_proc p) (segments sys.parts i) ≡ on (on_proc p) sh.done + on (on_proc p) (now ∷ later) = ap (on (on_proc p)) sh.place ∙ total_append f sh.done (now ∷ later) in
    let k : cond (eqb now.proc p) l 0 ≤ cond (eqb now.proc p) now.cost 0 =
    elim (eqb now.proc p) as (λ b. cond b l 0 ≤ cond b now.cost 0) [ true ↦ sh.most | false ↦ omega arith ] in
    omega arith

-- Where that work is: in the present segment or in a later one.
left_where : (p a l : ℕ) (now : Segment) (later : List Segment) → 0 < left_on p (open_at a l now later) →
    (now.proc ≡ p) ⊎ ((g : Segment) × (g ∈ later) × (g.proc ≡ p))
left_where p a l now later h =
    elim (cases_Bool (eqb now.proc p)) [
      | inl e ↦ inl (eqb-true now.proc p e)
      | inr e ↦
          let z : cond (eqb now.proc p) l 0 ≡ 0 = cond-false (eqb now.proc p) l 0 e in
          inr (on_some p later (omega arith))
    ]

-- So a job that is left something on the processor of part q is at that part's segment, or has not come to it.
left_place : (sys : System) → LaidOut sys → (q : Part) → q ∈ sys.parts → (a l : ℕ) (now : Segment) (later : List Segment) →
    Shaped (segments sys.parts q.task) a l now later → 0 < left_on q.processor (open_at a l now later) →
    (now ≡ segment_of sys.parts q) ⊎ (now.end ≤ begin_on sys.parts q.task q.processor)
left_place sys lo q m a l now later st h =
    let same : (g : Segment) → g ∈ segments sys.parts q.task → g.proc ≡ q.processor → g ≡ segment_of sys.parts q =
    λ g mg e. segment_same sys lo q.task g (segment_of sys.parts q) mg (part_segment sys lo q m) e in
    elim (left_where q.processor a l now later h) [
      | inl e ↦ inl (same now (st.done, later, st.place) e)
      | inr w ↦
          let b : w.0 ≡ segment_of sys.parts q = same w.0 (later_in sys q.task st.done later now w.0 st.place w.1) w.2 in
          inr (omega (arith, ap (λ (z : Segment). z.begin) b, later_begins sys lo q.task st.done later now w.0 st.place w.1))
    ]

-- If it is not ready there, it has not come to that part's window.
pub left_early : (sys : System) → LaidOut sys → (q : Part) → q ∈ sys.parts → (a l : ℕ) (now : Segment) (later : List Segment) →
    Shaped (segments sys.parts q.task) a l now later → 0 < left_on q.processor (open_at a l now later) → ready_on q.processor (open_at a l now later) ≡ false →
    a < begin_on sys.parts q.task q.processor
left_early sys lo q m a l now later st h nr =
    elim (left_place sys lo q m a l now later st h) [
      | inl same ↦ elim (cases_lt a now.begin) [
        | inl k ↦ omega (arith, ap (λ (z : Segment). z.begin) same)
        | inr k ↦ absurd (to_T false (sym nr ∙ ready_from q.processor a l now later (ap (λ (z : Segment). z.proc) same) k st.some))
      ]
      | inr k ↦ omega (arith, st.early)
    ]

-- And in any case that window is not over.
pub left_young : (sys : System) → LaidOut sys → (q : Part) → q ∈ sys.parts → (a l : ℕ) (now : Segment) (later : List Segment) →
    Shaped (segments sys.parts q.task) a l now later → 0 < left_on q.processor (open_at a l now later) →
    a < begin_on sys.parts q.task q.processor + q.window
left_young sys lo q m a l now later st h =
    elim (left_place sys lo q m a l now later st h) [
      | inl same ↦ omega (arith, st.early, ap (λ (z : Segment). z.end) same)
      | inr k ↦ omega (arith, st.early)
    ]
