-- The work that goes before a part, summed over the plan, and what each call makes of it.
use Rattle.std.proofs.Common.{◌≡◌, ℕ, ◌+◌, ◌*◌, ◌<◌, ◌≤◌, true, false, cond, eqb, length, sym, refl, ap, ◌∙◌, subst, subst₂, inl, inr, mul-le-mul_right, arith}
use Rattle.std.proofs.lemmas.Bool.{cases_eq, eqb-true, eq-eqb, ne_eqb, and_parts}
use Rattle.schedule.specs.declared.Part.{Part}
use Rattle.schedule.specs.Lists.{◌∈◌, total}
use Rattle.schedule.specs.Layout.{segments, span_of, System, interferes, LaidOut}
use Rattle.schedule.specs.TickRule.{Job, closed, open_at, State, job, started, ready_on, runs_on, ran_in, ticked, opened, released, finished}
use Rattle.schedule.proofs.facts.Lists.{to_T, cond_mono, cond_strict, total_le, total_lt}
use Rattle.schedule.proofs.facts.Curves.{curve_mono}
use Rattle.schedule.proofs.facts.Running.{ready_parts, Picked, picked_named}
use Rattle.schedule.proofs.facts.Calls.{job_ticked, job_released, job_released_other, room_released, room_released_other, job_finished}
use Rattle.schedule.proofs.facts.Calls.{job_finished_other, length_ticked, length_released, length_finished, job_started, length_started}
use Rattle.schedule.proofs.facts.Segments.{begin_on, segment_of, part_segment, segment_part, segment_same, segment_within}
use Rattle.schedule.proofs.facts.Jobs.{Shape, linked, shape_aged, shape_opened}
use Rattle.schedule.proofs.lateness.Room.{Roomy, roomy_aged, roomy_opened, roomy_closed}
use Rattle.schedule.proofs.lateness.Work.{waiting, admitted, pending, Meets, pending_any, pending_ran, coming_curve, pending_idle}
use Rattle.schedule.proofs.lateness.Work.{pending_released, pending_finished}

-- What a part may still have to run in the next L ticks.
abbrev pub pending_of : System → State → Part → ℕ → ℕ
pending_of sys s q L = pending q.processor (begin_on sys.parts q.task q.processor) q.cost (s.room q.task) (job s q.task) L

-- The work that goes before part q, in the next L ticks.
abbrev pub ahead : System → State → Part → ℕ → ℕ
ahead sys s q L = total (λ p. cond (interferes sys q p) (pending_of sys s p L) 0) sys.parts

-- The most that the curves admit of it in t ticks.
abbrev pub load : System → Part → ℕ → ℕ
load sys q t = total (λ p. cond (interferes sys q p) (sys.curve p.task t * p.cost) 0) sys.parts

-- What every call keeps: a job for each task, each where it can stand, with the room of its task.
pub record Formed (sys : System) (s : State) : Type 0 where
  pub size : length s.jobs ≡ sys.tasks
  pub rooms : (i : ℕ) → i < sys.tasks → Roomy (sys.curve i) (s.room i) (job s i)
  pub shapes : (i : ℕ) → i < sys.tasks → Shape (segments sys.parts i) (job s i)

-- A part meets the segment of its task on its processor.
pub meets : (sys : System) → LaidOut sys → (q : Part) → q ∈ sys.parts → Meets (segments sys.parts q.task) q.processor (begin_on sys.parts q.task q.processor) q.cost
meets sys lo q m = λ g mg e.
    let k : g ≡ segment_of sys.parts q = segment_same sys lo q.task g (segment_of sys.parts q) mg (part_segment sys lo q m) e in
    (ap (λ z. z.begin) k, ap (λ z. z.cost) k)

-- A taken release finds the job closed.
closed_from : (sys : System) → LaidOut sys → (i : ℕ) → i < sys.tasks → (room : ℕ → ℕ) (j : Job) → Roomy (sys.curve i) room j → Shape (segments sys.parts i) j → 1 ≤ room 1 → j ≡ closed
closed_from sys lo i h room closed rm sh r = refl
closed_from sys lo i h room (open_at age left g gs) rm sh r =
    let w : g.end ≤ span_of sys.parts i = segment_within sys lo i g (sh.done, gs, sh.place) in
    let m : sys.curve i (1 + age) ≤ sys.curve i (span_of sys.parts i) = curve_mono (sys.curve i) (lo.curves i h).steps (1 + age) (span_of sys.parts i) (omega (arith, sh.early)) in
    absurd (omega (arith, rm.held 1 (omega arith), lo.exclusive i h))

pub formed_closed : (sys : System) → LaidOut sys → (s : State) → Formed sys s → (i : ℕ) → i < sys.tasks → 1 ≤ s.room i 1 → job s i ≡ closed
formed_closed sys lo s fm i h r = closed_from sys lo i h (s.room i) (job s i) (fm.rooms i h) (fm.shapes i h) r

-- The invariant so far holds at the start and is kept by each call.
pub formed_start : (sys : System) → LaidOut sys → Formed sys (started sys)
formed_start sys lo = record {
  size = length_started sys;
  rooms = λ i h. rw (job_started sys i) (record { under = λ L. (omega arith); steps = λ L o. (lo.curves i h).steps L; held = tt });
  shapes = λ i h. rw (job_started sys i) tt;
}

pub formed_tick : (sys : System) → LaidOut sys → (s : State) → Formed sys s → Formed sys (ticked sys s)
formed_tick sys lo s fm = record {
  size = length_ticked sys s ∙ fm.size;
  rooms = λ i h. rw (job_ticked sys s i) (roomy_aged (sys.curve i) (s.room i) (lo.curves i h) (ran_in sys s i (job s i)) (job s i) (fm.rooms i h));
  shapes = λ i h. rw (job_ticked sys s i) (shape_aged (segments sys.parts i) (linked sys lo i) (ran_in sys s i (job s i)) (job s i) (fm.shapes i h));
}

pub formed_release : (sys : System) → LaidOut sys → (s : State) → Formed sys s → (i : ℕ) → i < sys.tasks → 1 ≤ s.room i 1 → Formed sys (released sys s i)
formed_release sys lo s fm i h r = record {
  size = length_released sys s i ∙ fm.size;
  rooms = λ k hk. elim (cases_eq k i) [
    | inl e ↦ subst (λ (z : ℕ). Roomy (sys.curve z) ((released sys s i).room z) (job (released sys s i) z)) (sym e)
        (subst₂ (λ (f : ℕ → ℕ) (j : Job). Roomy (sys.curve i) f j) (sym (room_released sys s i)) (sym (job_released sys s i (omega (arith, fm.size))))
        (roomy_opened (sys.curve i) (s.room i) (segments sys.parts i) (roomy_closed (sys.curve i) (s.room i) (job s i) (fm.rooms i h)) r))
    | inr ne ↦ subst₂ (λ (f : ℕ → ℕ) (j : Job). Roomy (sys.curve k) f j) (sym (room_released_other sys s i k ne)) (sym (job_released_other sys s i k ne)) (fm.rooms k hk)
  ];
  shapes = λ k hk. elim (cases_eq k i) [
    | inl e ↦ subst (λ (z : ℕ). Shape (segments sys.parts z) (job (released sys s i) z)) (sym e)
        (rw (job_released sys s i (omega (arith, fm.size))) (shape_opened (segments sys.parts i) (linked sys lo i)))
    | inr ne ↦ rw (job_released_other sys s i k ne) (fm.shapes k hk)
  ];
}

pub formed_finish : (sys : System) → LaidOut sys → (s : State) → Formed sys s → (i : ℕ) → i < sys.tasks → Formed sys (finished s i)
formed_finish sys lo s fm i h = record {
  size = length_finished s i ∙ fm.size;
  rooms = λ k hk. elim (cases_eq k i) [
    | inl e ↦ subst (λ (z : ℕ). Roomy (sys.curve z) (s.room z) (job (finished s i) z)) (sym e)
        (rw (job_finished s i) (roomy_closed (sys.curve i) (s.room i) (job s i) (fm.rooms i h)))
    | inr ne ↦ rw (job_finished_other s i k ne) (fm.rooms k hk)
  ];
  shapes = λ k hk. elim (cases_eq k i) [
    | inl e ↦ subst (λ (z : ℕ). Shape (segments sys.parts z) (job (finished s i) z)) (sym e) (rw (job_finished s i) tt)
    | inr ne ↦ rw (job_finished_other s i k ne) (fm.shapes k hk)
  ];
}

interferes_parts : (sys : System) (q p : Part) → interferes sys q p ≡ true → (p.processor ≡ q.processor) × (sys.before p.task q.task ≡ true)
interferes_parts sys q p e =
    let r : (eqb p.processor q.processor ≡ true) × (sys.before p.task q.task ≡ true) = and_parts (eqb p.processor q.processor) (sys.before p.task q.task) e in
    (eqb-true p.processor q.processor r.0, r.1)

interferes_from : (sys : System) (q p : Part) → p.processor ≡ q.processor → sys.before p.task q.task ≡ true → interferes sys q p ≡ true
interferes_from sys q p e b = rw (eq-eqb p.processor q.processor e, b)

-- At the start the work ahead is at most the load of the curves.
pub ahead_start : (sys : System) → LaidOut sys → (q : Part) (L : ℕ) → ahead sys (started sys) q L ≤ load sys q L
ahead_start sys lo q L =
    total_le (λ p. cond (interferes sys q p) (pending_of sys (started sys) p L) 0) (λ p. cond (interferes sys q p) (sys.curve p.task L * p.cost) 0) sys.parts
    (λ p m. cond_mono (interferes sys q p) (pending_of sys (started sys) p L) (sys.curve p.task L * p.cost) (λ t. each p m))
  where
    each : (p : Part) → p ∈ sys.parts → pending_of sys (started sys) p L ≤ sys.curve p.task L * p.cost
    each p m =
        let h : p.task < sys.tasks = (lo.known p m).0 in
        let b : ℕ = begin_on sys.parts p.task p.processor in
        let k : (waiting b closed L + admitted b (sys.curve p.task) L) * p.cost ≤ sys.curve p.task L * p.cost =
        mul-le-mul_right p.cost (coming_curve b (sys.curve p.task) (sys.curve p.task) (lo.curves p.task h) closed
        (roomy_closed (sys.curve p.task) (sys.curve p.task) (job (started sys) p.task) ((formed_start sys lo).rooms p.task h)) L) in
        rw (job_started sys p.task) (omega arith)

-- Any tick.
pending_of_any : (sys : System) → LaidOut sys → (s : State) → Formed sys s → (p : Part) → p ∈ sys.parts → (L : ℕ) → pending_of sys (ticked sys s) p L ≤ pending_of sys s p (L + 1)
pending_of_any sys lo s fm p m L =
    let h : p.task < sys.tasks = (lo.known p m).0 in
    rw (job_ticked sys s p.task) (pending_any (segments sys.parts p.task) (linked sys lo p.task)
    p.processor (begin_on sys.parts p.task p.processor) p.cost (meets sys lo p m)
    (sys.curve p.task) (s.room p.task) (ran_in sys s p.task (job s p.task)) (job s p.task) (fm.shapes p.task h) L)

pending_of_any_chosen : (sys : System) → LaidOut sys → (s : State) → Formed sys s → (q : Part) (L : ℕ) (p : Part) → p ∈ sys.parts →
    cond (interferes sys q p) (pending_of sys (ticked sys s) p L) 0 ≤ cond (interferes sys q p) (pending_of sys s p (L + 1)) 0
pending_of_any_chosen sys lo s fm q L p m = cond_mono (interferes sys q p) (pending_of sys (ticked sys s) p L) (pending_of sys s p (L + 1)) (λ t. pending_of_any sys lo s fm p m L)

pub ahead_any : (sys : System) → LaidOut sys → (s : State) → Formed sys s → (q : Part) (L : ℕ) → ahead sys (ticked sys s) q L ≤ ahead sys s q (L + 1)
ahead_any sys lo s fm q L =
    total_le (λ p. cond (interferes sys q p) (pending_of sys (ticked sys s) p L) 0) (λ p. cond (interferes sys q p) (pending_of sys s p (L + 1)) 0) sys.parts (pending_of_any_chosen sys lo s fm q L)

-- The part that a picked task runs.
pub picked_part : (sys : System) → LaidOut sys → (s : State) → Formed sys s → (p i : ℕ) → Picked sys s p i → (j : Part) × (j ∈ sys.parts) × (j.task ≡ i) × (j.processor ≡ p)
picked_part sys lo s fm p i pk = go (job s i) pk.ready (fm.shapes i pk.task)
  where
    go : (j : Job) → ready_on p j ≡ true → Shape (segments sys.parts i) j → (j : Part) × (j ∈ sys.parts) × (j.task ≡ i) × (j.processor ≡ p)
    go closed r sh = absurd (to_T false r)
    go (open_at age left g gs) r sh =
        let a : (g.proc ≡ p) × (g.begin ≤ age) × (1 ≤ left) = ready_parts p age left g gs r in
        let b : (q : Part) × (q ∈ sys.parts) × (q.task ≡ i) × (g ≡ segment_of sys.parts q) = segment_part sys lo i g (sh.done, gs, sh.place) in
        (b.0, b.1, b.2, ap (λ z. z.proc) (sym b.3) ∙ a.0)

-- A tick in which a task that goes before part q runs.
picked_ran : (sys : System) → LaidOut sys → (s : State) (p i : ℕ) → Picked sys s p i → (j : Job) → ready_on p j ≡ true → ran_in sys s i j ≡ true
picked_ran sys lo s p i pk closed r = absurd (to_T false r)
picked_ran sys lo s p i pk (open_at age left g gs) r =
    let a : (g.proc ≡ p) × (g.begin ≤ age) × (1 ≤ left) = ready_parts p age left g gs r in
    eq-eqb (runs_on sys s g.proc) i (ap (runs_on sys s) a.0 ∙ picked_named sys lo s p i pk)

pending_of_ran : (sys : System) → LaidOut sys → (s : State) → Formed sys s → (p : Part) → p ∈ sys.parts → Picked sys s p.processor p.task → (L : ℕ) →
    pending_of sys (ticked sys s) p L < pending_of sys s p (L + 1)
pending_of_ran sys lo s fm p m pk L =
    let h : p.task < sys.tasks = (lo.known p m).0 in
    rw (job_ticked sys s p.task, picked_ran sys lo s p.processor p.task pk (job s p.task) pk.ready)
    (pending_ran (segments sys.parts p.task) (linked sys lo p.task)
    p.processor (begin_on sys.parts p.task p.processor) p.cost (meets sys lo p m)
    (sys.curve p.task) (s.room p.task) (job s p.task) (fm.shapes p.task h) pk.ready L)

pub ahead_ran : (sys : System) → LaidOut sys → (s : State) → Formed sys s → (q : Part) (i : ℕ) → Picked sys s q.processor i → sys.before i q.task ≡ true → (L : ℕ) →
    ahead sys (ticked sys s) q L < ahead sys s q (L + 1)
ahead_ran sys lo s fm q i pk bf L =
    let a = picked_part sys lo s fm q.processor i pk in
    let b : sys.before a.0.task q.task ≡ true = rw a.2 bf in
    let pk' : Picked sys s a.0.processor a.0.task = rw (a.2, a.3) pk in
    total_lt (λ p. cond (interferes sys q p) (pending_of sys (ticked sys s) p L) 0) (λ p. cond (interferes sys q p) (pending_of sys s p (L + 1)) 0) sys.parts
    a.0 a.1 (pending_of_any_chosen sys lo s fm q L)
    (cond_strict (interferes sys q a.0) (pending_of sys (ticked sys s) a.0 L) (pending_of sys s a.0 (L + 1))
    (interferes_from sys q a.0 a.3 b) (pending_of_ran sys lo s fm a.0 a.1 pk' L))

-- A tick in which none of them is ready.
pending_of_idle : (sys : System) → LaidOut sys → (s : State) → Formed sys s → (p : Part) → p ∈ sys.parts → ready_on p.processor (job s p.task) ≡ false → (L : ℕ) →
    pending_of sys (ticked sys s) p L ≤ sys.curve p.task L * p.cost
pending_of_idle sys lo s fm p m un L =
    let h : p.task < sys.tasks = (lo.known p m).0 in
    rw (job_ticked sys s p.task) (pending_idle (segments sys.parts p.task) (linked sys lo p.task)
    p.processor (begin_on sys.parts p.task p.processor) p.cost (meets sys lo p m)
    (sys.curve p.task) (s.room p.task) (lo.curves p.task h) (ran_in sys s p.task (job s p.task)) (job s p.task) (fm.shapes p.task h) (fm.rooms p.task h) un L)

pub ahead_idle : (sys : System) → LaidOut sys → (s : State) → Formed sys s → (q : Part) →
    ((k : ℕ) → k < sys.tasks → sys.before k q.task ≡ true → ready_on q.processor (job s k) ≡ false) → (L : ℕ) → ahead sys (ticked sys s) q L ≤ load sys q L
ahead_idle sys lo s fm q un L =
    total_le (λ p. cond (interferes sys q p) (pending_of sys (ticked sys s) p L) 0) (λ p. cond (interferes sys q p) (sys.curve p.task L * p.cost) 0) sys.parts
    (λ p m. cond_mono (interferes sys q p) (pending_of sys (ticked sys s) p L) (sys.curve p.task L * p.cost) (λ t.
    let r : (p.processor ≡ q.processor) × (sys.before p.task q.task ≡ true) = interferes_parts sys q p t in
    pending_of_idle sys lo s fm p m (rw r.0 (un p.task (lo.known p m).0 r.1)) L))

-- A taken release, and a finish.
pending_of_release : (sys : System) → LaidOut sys → (s : State) → Formed sys s → (p : Part) → p ∈ sys.parts → (i : ℕ) → i < sys.tasks → 1 ≤ s.room i 1 → (L : ℕ) →
    pending_of sys (released sys s i) p L ≤ pending_of sys s p L
pending_of_release sys lo s fm p m i h r L =
    elim (cases_eq p.task i) [
      | inl e ↦
          let j : job (released sys s i) p.task ≡ opened sys p.task = rw e (job_released sys s i (omega (arith, fm.size))) in
          let r' : 1 ≤ s.room p.task 1 = rw e r in
          let hp : p.task < sys.tasks = (lo.known p m).0 in
          let c : job s p.task ≡ closed = formed_closed sys lo s fm p.task hp r' in
          rw (j, c, eq-eqb p.task i e)
          (pending_released (segments sys.parts p.task) p.processor (begin_on sys.parts p.task p.processor) p.cost (sys.curve p.task) (s.room p.task)
          (roomy_closed (sys.curve p.task) (s.room p.task) (job s p.task) (fm.rooms p.task hp)) r' L)
      | inr ne ↦ rw (job_released_other sys s i p.task ne, ne_eqb p.task i ne) (omega arith)
    ]

pub ahead_release : (sys : System) → LaidOut sys → (s : State) → Formed sys s → (q : Part) (i : ℕ) → i < sys.tasks → 1 ≤ s.room i 1 → (L : ℕ) →
    ahead sys (released sys s i) q L ≤ ahead sys s q L
ahead_release sys lo s fm q i h r L =
    total_le (λ p. cond (interferes sys q p) (pending_of sys (released sys s i) p L) 0) (λ p. cond (interferes sys q p) (pending_of sys s p L) 0) sys.parts
    (λ p m. cond_mono (interferes sys q p) (pending_of sys (released sys s i) p L) (pending_of sys s p L) (λ t. pending_of_release sys lo s fm p m i h r L))

pending_of_finish : (sys : System) (s : State) (p : Part) (i : ℕ) (L : ℕ) → pending_of sys (finished s i) p L ≤ pending_of sys s p L
pending_of_finish sys s p i L =
    elim (cases_eq p.task i) [
      | inl e ↦
          let j : job (finished s i) p.task ≡ closed = rw e (job_finished s i) in
          rw j (pending_finished p.processor (begin_on sys.parts p.task p.processor) p.cost (s.room p.task) (job s p.task) L)
      | inr ne ↦ rw (job_finished_other s i p.task ne) (omega arith)
    ]

pub ahead_finish : (sys : System) (s : State) (q : Part) (i : ℕ) (L : ℕ) → ahead sys (finished s i) q L ≤ ahead sys s q L
ahead_finish sys s q i L =
    total_le (λ p. cond (interferes sys q p) (pending_of sys (finished s i) p L) 0) (λ p. cond (interferes sys q p) (pending_of sys s p L) 0) sys.parts
    (λ p m. cond_mono (interferes sys q p) (pending_of sys (finished s i) p L) (pending_of sys s p L) (λ t. pending_of_finish sys s p i L))
