-- From a state to the history that led to it: an open job has its release there, and what it has run since; so a late tick shows in the history.
use Rattle.std.proofs.Common.{◌≡◌, ℕ, suc, ◌+◌, ◌-◌, ◌<◌, ◌≤◌, Bool, false, cond, eqb, ◌⊎◌, List, [], ◌∷◌, ◌++◌, length, get_or, sym, refl, ap, ◌∙◌, subst, inl, inr, append_assoc, arith}
use Rattle.std.proofs.lemmas.Bool.{cases_eq, cases_lt, eq-eqb, ne_eqb, or_parts, or_from, cond-true, cond-false, cond_both}
use Rattle.schedule.specs.Lists.{◌∈◌, one_if}
use Rattle.schedule.specs.Layout.{Segment, segments, System, LaidOut}
use Rattle.schedule.specs.TickRule.{Job, closed, open_at, State, job, started, runs_on, answer, hand_over, aged, ran_in, ticked, opened, released}
use Rattle.schedule.specs.TickRule.{Call, release, tick, Answer, taken, ran, refused, Event, History}
use Rattle.schedule.specs.Promise.{ticks_in, releases, finishes, time, bytes, runs_at, life, until, finished_in, SomeLate}
use Rattle.schedule.proofs.facts.Lists.{total_append}
use Rattle.schedule.proofs.facts.Running.{named_here, answer_at, answer_past}
use Rattle.schedule.proofs.facts.Calls.{job_ticked, job_released, job_released_other, length_ticked, length_released, job_started, length_started}
use Rattle.schedule.proofs.facts.Jobs.{aged_either, Shaped, Shape, linked, shape_aged, shape_opened, on, owed_hand_over, on_proc, on_segment}
use Rattle.schedule.proofs.overload.Left.{left_on, left_spent}

-- The release of an open job of task i in the history, and what followed.
pub record Born (sys : System) (i : ℕ) (h : History) (a : ℕ) (j : Job) : Type 0 where
  pub earlier : History
  pub after : History
  pub made : h ≡ earlier ++ ((release i, taken) ∷ after)
  pub age : time after ≡ a
  pub unfinished : finished_in i after ≡ false
  pub spent : (p : ℕ) → runs_at i p after + left_on p j ≤ on (on_proc p) (segments sys.parts i)

abbrev pub Trace : System → ℕ → History → Job → Type 0
Trace sys i h closed = Unit {0}
Trace sys i h (open_at a l now later) = Born sys i h a (open_at a l now later)

pub record Tracked (sys : System) (h : History) (s : State) : Type 0 where
  pub sized : length s.jobs ≡ sys.tasks
  pub shape : (i : ℕ) → i < sys.tasks → Shape (segments sys.parts i) (job s i)
  pub trace : (i : ℕ) → i < sys.tasks → Trace sys i h (job s i)

-- One event more.
finished_more : (i : ℕ) (h : History) (e : Event) → finished_in i h ≡ false → finishes i e ≡ false → finished_in i (h ++ (e ∷ [])) ≡ false
finished_more i [] e f g = or_from (finishes i e) false g refl
finished_more i (x ∷ xs) e f g =
    let t = or_parts (finishes i x) (finished_in i xs) f in
    or_from (finishes i x) (finished_in i (xs ++ (e ∷ []))) t.0 (finished_more i xs e t.1 g)

born_more : (sys : System) (i : ℕ) (h : History) (a b : ℕ) (j k : Job) (e : Event) → Born sys i h a j →
    a + ticks_in e ≡ b → finishes i e ≡ false → ((p : ℕ) → one_if (eqb (get_or (bytes e) p 255) i) + left_on p k ≤ left_on p j) →
    Born sys i (h ++ (e ∷ [])) b k
born_more sys i h a b j k e bo t f sp = record {
  earlier = bo.earlier;
  after = bo.after ++ (e ∷ []);
  made = ap (λ x. x ++ (e ∷ [])) bo.made ∙ append_assoc bo.earlier ((release i, taken) ∷ bo.after) (e ∷ []);
  age = omega (arith, total_append ticks_in bo.after (e ∷ []), bo.age);
  unfinished = finished_more i bo.after e bo.unfinished f;
  spent = λ p. omega (arith, total_append (λ (x : Event). one_if (eqb (get_or (bytes x) p 255) i)) bo.after (e ∷ []), bo.spent p, sp p);
}

-- An aged job, if it is open, has the age.
trace_hand_over : (sys : System) (i : ℕ) (h : History) (a : ℕ) (gs : List Segment) → Born sys i h a (hand_over a gs) → Trace sys i h (hand_over a gs)
trace_hand_over sys i h a [] b = tt
trace_hand_over sys i h a (g ∷ gs) b = b

trace_aged : (sys : System) (i : ℕ) (h : History) (r : Bool) (a l : ℕ) (now : Segment) (later : List Segment) →
    Born sys i h (a + 1) (aged r (open_at a l now later)) → Trace sys i h (aged r (open_at a l now later))
trace_aged sys i h r a l now later =
    aged_either r a l now later (λ j. Born sys i h (a + 1) j → Trace sys i h j) (λ w. trace_hand_over sys i h (a + 1) later) (λ n e b. b)

-- What the tick names of task i on p is what the job loses there.
answer_names : (sys : System) → LaidOut sys → (s : State) (i p : ℕ) → i < sys.tasks →
    one_if (eqb (get_or (answer sys s) p 255) i) ≤ one_if (eqb (runs_on sys s p) i)
answer_names sys lo s i p hi =
    elim (cases_lt p sys.procs) [
      | inl h ↦
          omega (arith, ap (λ x. one_if (eqb x i)) (answer_at sys s p h))
      | inr h ↦
          let e : get_or (answer sys s) p 255 ≡ 255 = answer_past sys s p h in
          let z : eqb 255 i ≡ false = ne_eqb 255 i (omega (arith, lo.few_tasks)) in
          omega (arith, ap (λ x. one_if (eqb x i)) e, ap one_if z)
    ]

tick_spent : (sys : System) → LaidOut sys → (s : State) (i p a l : ℕ) (now : Segment) (later : List Segment) → i < sys.tasks →
    job s i ≡ open_at a l now later → 1 ≤ l →
    one_if (eqb (get_or (answer sys s) p 255) i) + left_on p (aged (eqb (runs_on sys s now.proc) i) (open_at a l now later)) ≤ left_on p (open_at a l now later)
tick_spent sys lo s i p a l now later hi e some =
    let r = eqb (runs_on sys s now.proc) i in
    let c = one_if (eqb (runs_on sys s p) i) in
    let same : now.proc ≡ p → c ≤ one_if r = λ x. omega (arith, ap (λ y. one_if (eqb (runs_on sys s y) i)) x) in
    let other : (now.proc ≡ p → ⊥) → c ≡ 0 = λ ne. ap one_if (ne_eqb (runs_on sys s p) i (λ x. ne (named_here sys lo s p i a l now later hi e x).0)) in
    omega (arith, answer_names sys lo s i p hi, left_spent p r a l now later c some same other)

-- A tick that is taken.
trace_tick : (sys : System) → LaidOut sys → (h : History) (s : State) (r i : ℕ) (j : Job) → i < sys.tasks → job s i ≡ j →
    Shape (segments sys.parts i) j → Trace sys i h j → Trace sys i (h ++ ((tick r, ran (answer sys s)) ∷ [])) (aged (ran_in sys s i j) j)
trace_tick sys lo h s r i closed hi e sh tr = tt
trace_tick sys lo h s r i (open_at a l now later) hi e sh tr =
    trace_aged sys i _ (eqb (runs_on sys s now.proc) i) a l now later
    (born_more sys i h a (a + 1) (open_at a l now later) _ (tick r, ran (answer sys s)) tr refl refl
    (λ p. tick_spent sys lo s i p a l now later hi e sh.some))

pub tracked_tick : (sys : System) → LaidOut sys → (h : History) (s : State) (r : ℕ) → Tracked sys h s →
    Tracked sys (h ++ ((tick r, ran (answer sys s)) ∷ [])) (ticked sys s)
tracked_tick sys lo h s r t = record {
  sized = length_ticked sys s ∙ t.sized;
  shape = λ i hi. subst (Shape (segments sys.parts i)) (sym (job_ticked sys s i)) (shape_aged (segments sys.parts i) (linked sys lo i) (ran_in sys s i (job s i)) (job s i) (t.shape i hi));
  trace = λ i hi. subst (Trace sys i (h ++ ((tick r, ran (answer sys s)) ∷ []))) (sym (job_ticked sys s i))
      (trace_tick sys lo h s r i (job s i) hi refl (t.shape i hi) (t.trace i hi));
}

-- A release that is taken.
trace_quiet : (sys : System) → LaidOut sys → (h : History) (k i : ℕ) (a : Answer) (j : Job) → i < sys.tasks → bytes (release k, a) ≡ [] → ticks_in (release k, a) ≡ 0 →
    Trace sys i h j → Trace sys i (h ++ ((release k, a) ∷ [])) j
trace_quiet sys lo h k i an closed hi b t tr = tt
trace_quiet sys lo h k i an (open_at a l now later) hi b t tr =
    born_more sys i h a a (open_at a l now later) (open_at a l now later) (release k, an) tr (omega (arith, t)) refl
    (λ p. omega (arith, ap (λ x. one_if (eqb (get_or x p 255) i)) b, ap one_if (ne_eqb 255 i (omega (arith, lo.few_tasks)))))

trace_opened : (sys : System) (i : ℕ) (h : History) → Trace sys i (h ++ ((release i, taken) ∷ [])) (opened sys i)
trace_opened sys i h =
    trace_hand_over sys i (h ++ ((release i, taken) ∷ [])) 0 (segments sys.parts i) (record {
      earlier = h;
      after = [];
      made = refl;
      age = refl;
      unfinished = refl;
      spent = λ p. omega (arith, owed_hand_over (on_proc p) 0 (segments sys.parts i));
    })

pub tracked_release : (sys : System) → LaidOut sys → (h : History) (s : State) (k : ℕ) → k < sys.tasks → Tracked sys h s →
    Tracked sys (h ++ ((release k, taken) ∷ [])) (released sys s k)
tracked_release sys lo h s k hk t =
    let h' = h ++ ((release k, taken) ∷ []) in
    let at : k < length s.jobs = omega (arith, t.sized) in
    record {
      sized = length_released sys s k ∙ t.sized;
      shape = λ i hi. elim (cases_eq i k) [
        | inl e ↦ subst (λ x. Shape (segments sys.parts x) (job (released sys s k) x)) (sym e) (subst (Shape (segments sys.parts k)) (sym (job_released sys s k at)) (shape_opened (segments sys.parts k) (linked sys lo k)))
        | inr ne ↦ subst (Shape (segments sys.parts i)) (sym (job_released_other sys s k i ne)) (t.shape i hi)
      ];
      trace = λ i hi. elim (cases_eq i k) [
        | inl e ↦ subst (λ x. Trace sys x h' (job (released sys s k) x)) (sym e) (subst (Trace sys k h') (sym (job_released sys s k at)) (trace_opened sys k h))
        | inr ne ↦ subst (Trace sys i h') (sym (job_released_other sys s k i ne)) (trace_quiet sys lo h k i taken (job s i) hi refl refl (t.trace i hi))
      ];
    }

-- A release that is refused.
pub tracked_refused : (sys : System) → LaidOut sys → (h : History) (s : State) (k x y : ℕ) → Tracked sys h s →
    Tracked sys (h ++ ((release k, refused x y) ∷ [])) s
tracked_refused sys lo h s k x y t = record {
  sized = t.sized;
  shape = t.shape;
  trace = λ i hi. trace_quiet sys lo h k i (refused x y) (job s i) hi refl refl (t.trace i hi);
}

-- The start.
pub tracked_started : (sys : System) → Tracked sys [] (started sys)
tracked_started sys = record {
  sized = length_started sys;
  shape = λ i hi. subst (Shape (segments sys.parts i)) (sym (job_started sys i)) tt;
  trace = λ i hi. subst (Trace sys i []) (sym (job_started sys i)) tt;
}

-- Cost is left at the end of a segment, after this tick.
pub record LateNow (sys : System) (s : State) (i : ℕ) : Type 0 where
  pub age : ℕ
  pub left : ℕ
  pub now : Segment
  pub later : List Segment
  pub at : job s i ≡ open_at age left now later
  pub ends : age + 1 ≡ now.end
  pub short : one_if (eqb (runs_on sys s now.proc) i) < left

-- Up to a tick that ends the time.
ticks_cases : (e : Event) → (ticks_in e ≡ 0) ⊎ (ticks_in e ≡ 1)
ticks_cases e = elim e.1 as (λ (a : Answer). (ticks_in (e.0, a) ≡ 0) ⊎ (ticks_in (e.0, a) ≡ 1)) [ taken ↦ inl refl | ran bs ↦ inr refl | refused k at ↦ inl refl ]

until_tick : (h : History) (c : Call) (bs : List ℕ) → until (suc (time h)) (h ++ ((c, ran bs) ∷ [])) ≡ h ++ ((c, ran bs) ∷ [])
until_tick [] c bs = refl
until_tick (x ∷ xs) c bs =
    let rest = xs ++ ((c, ran bs) ∷ []) in
    let all = until_tick xs c bs in
    ap {B = History} (λ l. x ∷ l) (elim (ticks_cases x) [
      | inl z ↦
          let n : suc (ticks_in x + time xs) ≡ suc (time xs) = omega arith in
          cond-false (eqb (ticks_in x) 1) _ _ (ne_eqb (ticks_in x) 1 (omega arith)) ∙ ap (λ d. until d rest) n ∙ all
      | inr z ↦
          let n : ticks_in x + time xs ≡ suc (time xs) = omega arith in
          cond-true (eqb (ticks_in x) 1) _ _ (eq-eqb (ticks_in x) 1 z) ∙ ap (λ d. until d rest) n ∙ all
    ])

life_runs : (i p : ℕ) (h : History) → runs_at i p (life i h) ≤ runs_at i p h
life_runs i p [] = omega arith
life_runs i p (e ∷ es) =
    cond_both (releases i e) [] _ (λ x. runs_at i p x ≤ runs_at i p (e ∷ es)) (λ t. omega arith) (λ t. omega (arith, life_runs i p es))

life_finished : (i : ℕ) (h : History) → finished_in i h ≡ false → finished_in i (life i h) ≡ false
life_finished i [] f = refl
life_finished i (e ∷ es) f =
    let t = or_parts (finishes i e) (finished_in i es) f in
    cond_both (releases i e) [] _ (λ x. finished_in i x ≡ false) (λ z. refl)
    (λ z. or_from (finishes i e) (finished_in i (life i es)) t.0 (life_finished i es t.1))

late_from : (sys : System) → LaidOut sys → (h : History) (s : State) (r i a l : ℕ) (g : Segment) (later : List Segment) → i < sys.tasks →
    a + 1 ≡ g.end → one_if (eqb (runs_on sys s g.proc) i) < l → Shaped (segments sys.parts i) a l g later → Born sys i h a (open_at a l g later) →
    SomeLate sys (h ++ ((tick r, ran (answer sys s)) ∷ []))
late_from sys lo h s r i a l g later hi ends short sh bo =
    let e : Event = (tick r, ran (answer sys s)) in
    let after : History = bo.after ++ (e ∷ []) in
    let m : g ∈ segments sys.parts i = (sh.done, later, sh.place) in
    let made : h ++ (e ∷ []) ≡ bo.earlier ++ ((release i, taken) ∷ after) =
    ap (λ x. x ++ (e ∷ [])) bo.made ∙ append_assoc bo.earlier ((release i, taken) ∷ bo.after) (e ∷ []) in
    let n : g.end ≡ suc (time bo.after) = omega (arith, bo.age) in
    let u : until g.end after ≡ after = ap (λ x. until x after) n ∙ until_tick bo.after (tick r) (answer sys s) in
    let own : cond (eqb g.proc g.proc) l 0 ≡ l = cond-true (eqb g.proc g.proc) l 0 (eq-eqb g.proc g.proc refl) in
    let ran_so : runs_at i g.proc after < g.cost =
    omega (
      arith,
      total_append (λ (x : Event). one_if (eqb (get_or (bytes x) g.proc 255) i)) bo.after (e ∷ []),
      bo.spent g.proc,
      on_segment sys lo i g m,
      answer_names sys lo s i g.proc hi,
    ) in (
      i,
      g,
      after,
      hi,
      m,
      (bo.earlier, made),
      record {
        reached = omega (arith, total_append ticks_in bo.after (e ∷ []));
        unfinished = ap (λ x. finished_in i (life i x)) u ∙ life_finished i after (finished_more i bo.after e bo.unfinished refl);
        short = omega (arith, ap (λ x. runs_at i g.proc (life i x)) u, life_runs i g.proc after);
      },
    )

pub late_some : (sys : System) → LaidOut sys → (h : History) (s : State) (r i : ℕ) → Tracked sys h s → i < sys.tasks → LateNow sys s i →
    SomeLate sys (h ++ ((tick r, ran (answer sys s)) ∷ []))
late_some sys lo h s r i t hi la =
    late_from sys lo h s r i la.age la.left la.now la.later hi la.ends la.short
    (subst (Shape (segments sys.parts i)) la.at (t.shape i hi)) (subst (Trace sys i h) la.at (t.trace i hi))

-- A tick is late for task i, or not.
abbrev pub OnTime : System → State → ℕ → Job → Type 0
OnTime sys s i closed = Unit {0}
OnTime sys s i (open_at a l now later) = a + 1 ≡ now.end → l - one_if (eqb (runs_on sys s now.proc) i) ≡ 0

pub late_or : (sys : System) (s : State) (i : ℕ) → LateNow sys s i ⊎ OnTime sys s i (job s i)
late_or sys s i = go (job s i) refl
  where
    go : (j : Job) → job s i ≡ j → LateNow sys s i ⊎ OnTime sys s i j
    go closed e = inr tt
    go (open_at a l now later) e =
        elim (cases_eq (a + 1) now.end) [
          | inr ne ↦ inr (λ en. absurd (ne en))
          | inl en ↦ elim (cases_lt (one_if (eqb (runs_on sys s now.proc) i)) l) [
            | inl sh ↦ inl (record { age = a; left = l; now = now; later = later; at = e; ends = en; short = sh })
            | inr k ↦ inr (λ en'. omega arith)
          ]
        ]
