-- The account of the parts in the critical calls: where no part is late, the tick that ends a part's work is a response time of it.
use Rattle.std.proofs.Common.{◌≡◌, ℕ, zero, suc, ◌+◌, ◌-◌, ◌*◌, ◌<◌, ◌≤◌, Bool, true, false, cond, eqb, leb, length, sym, refl, ap, ◌∙◌, subst, inl, inr, mul-le-mul_right, suc-mul, one-mul, arith}
use Rattle.std.proofs.lemmas.Bool.{cases_Bool, cases_eq, eqb-true, eq-eqb, ne_eqb, leb-true, le-leb, lt-leb, and_parts, and_from, or_left, or_right, cond-true, cond-false, cond_both}
use Rattle.schedule.specs.declared.Part.{Part}
use Rattle.schedule.specs.Lists.{◌∈◌, total, one_if}
use Rattle.schedule.specs.Curves.{Subadditive}
use Rattle.schedule.specs.Layout.{Segment, span_of, System, interferes, LaidOut}
use Rattle.schedule.specs.TickRule.{Job, closed, open_at, job, started, ready_on, runs_on, aged, ran_in, ticked, last_clock}
use Rattle.schedule.proofs.facts.Lists.{to_T, one_if_le, cond_at_most, total_le, total_same, total_none, total_cond_plus, total_bound, total_once}
use Rattle.schedule.proofs.facts.Curves.{curve_mono}
use Rattle.schedule.proofs.facts.Running.{named_picked, task_not_255, named_here}
use Rattle.schedule.proofs.facts.Calls.{job_ticked, length_ticked, job_started}
use Rattle.schedule.proofs.facts.Segments.{begin_on, segment_of, part_segment, segment_same, segment_within}
use Rattle.schedule.proofs.facts.Jobs.{on, on_part}
use Rattle.schedule.proofs.Responses.{crosses, Overloaded}
use Rattle.schedule.proofs.overload.Left.{left_on, left_kept, left_most, left_early, left_young}
use Rattle.schedule.proofs.overload.Traces.{OnTime}
use Rattle.schedule.proofs.overload.Arrivals.{Fine, Due, due_first, due_more, made_ticked, due_ticked}
use Rattle.schedule.proofs.overload.Attempts.{DueIn, MadeIn, due_opens, wait_opens}
use Rattle.schedule.proofs.overload.CriticalInstant.{chosen, instant, first, due_at, at, due_in, due_has, due_known, calls_tracked}

cond_counts : (b c : Bool) → (cond b (one_if c) 0 ≡ 0 → ⊥) → (b ≡ true) × (c ≡ true)
cond_counts true true h = (refl, refl)
cond_counts true false h = absurd (h refl)
cond_counts false c h = absurd (h refl)

cond_small : (b c : Bool) → cond b (one_if c) 0 ≤ 1
cond_small true c = one_if_le c
cond_small false c = omega arith

-- How many ticks, from the instant on, the processor of q has run task i.
pub ran_on : System → Part → ℕ → ℕ → ℕ
ran_on sys q zero i = 0
ran_on sys q (suc t) i = ran_on sys q t i + cond (leb (instant sys) t) (one_if (eqb (runs_on sys (at sys q t) q.processor) i)) 0

ran_none : (sys : System) (q : Part) (t i : ℕ) → t ≤ instant sys → ran_on sys q t i ≡ 0
unfolding ran_on
ran_none sys q zero i h = refl
ran_none sys q (suc t) i h = omega (
  arith,
  ran_none sys q t i (omega arith),
  cond-false (leb (instant sys) t) (one_if (eqb (runs_on sys (at sys q t) q.processor) i)) 0 (lt-leb (instant sys) t h),
)

ran_more : (sys : System) (q : Part) (t i : ℕ) → ran_on sys q t i ≤ ran_on sys q (suc t) i
unfolding ran_on
ran_more sys q t i = omega arith

ran_step : (sys : System) (q : Part) (t i : ℕ) → ran_on sys q t i < ran_on sys q (suc t) i → runs_on sys (at sys q t) q.processor ≡ i
unfolding ran_on
ran_step sys q t i h =
    let r = eqb (runs_on sys (at sys q t) q.processor) i in
    elim (cases_Bool r) [
      | inl e ↦ eqb-true (runs_on sys (at sys q t) q.processor) i e
      | inr e ↦ absurd (omega (arith, ap (λ b. cond (leb (instant sys) t) (one_if b) 0) e, cond_both {A = ℕ} (leb (instant sys) t) 0 0 (λ n. n ≡ 0) (λ z. refl) (λ z. refl)))
    ]

-- In one tick the processor runs one task.
one_task : (sys : System) → LaidOut sys → (q : Part) → q ∈ sys.parts → (r : ℕ) →
    one_if (eqb r q.task) + total (λ x. cond (interferes sys q x) (one_if (eqb r x.task)) 0) sys.parts ≤ 1
one_task sys lo q mq r =
    let f : Part → ℕ = λ x. cond (interferes sys q x) (one_if (eqb r x.task)) 0 in
    let counts : (x : Part) → (f x ≡ 0 → ⊥) → (r ≡ x.task) × (x.processor ≡ q.processor) × (sys.before x.task q.task ≡ true) = λ x h.
    let k = cond_counts (interferes sys q x) (eqb r x.task) h in
    let i = and_parts (eqb x.processor q.processor) (sys.before x.task q.task) k.0 in
    (eqb-true r x.task k.1, eqb-true x.processor q.processor i.0, i.1) in
    elim (cases_eq r q.task) [
      | inl e ↦
          let none : total f sys.parts ≡ 0 = total_none f sys.parts (λ x m. elim (cases_eq (f x) 0) [
            | inl z ↦ z
            | inr nz ↦
                let k = counts x nz in
                let same : x.task ≡ q.task = omega (arith, k.0) in
                absurd (lo.ordered.irreflexive q.task (lo.known q mq).0 (to_T (sys.before q.task q.task) (sym (ap (λ z. sys.before z q.task) same) ∙ k.2)))
          ]) in
          omega (arith, one_if_le (eqb r q.task))
      | inr ne ↦
          let once : total f sys.parts ≤ 1 = total_once f 1 sys.parts (λ x m. cond_small (interferes sys q x) (eqb r x.task)) (λ us bs cs x y e hx hy.
          let kx = counts x (omega arith) in
          let ky = counts y (omega arith) in
          lo.apart us bs cs x y e (omega (arith, kx.0, ky.0)) (omega (arith, kx.1, ky.1))) in
          omega (arith, ap one_if (ne_eqb r q.task ne))
    ]

-- so q and all that goes before it have run no more than the time since the instant.
pub ran_all : (sys : System) → LaidOut sys → (q : Part) → q ∈ sys.parts → (t : ℕ) →
    ran_on sys q t q.task + total (λ x. cond (interferes sys q x) (ran_on sys q t x.task) 0) sys.parts ≤ t - instant sys
unfolding ran_on
ran_all sys lo q mq zero = omega (arith, total_none (λ (x : Part). cond (interferes sys q x) 0 0) sys.parts (λ x m. cond_both (interferes sys q x) 0 0 (λ n. n ≡ 0) (λ e. refl) (λ e. refl)))
ran_all sys lo q mq (suc t) =
    let r = runs_on sys (at sys q t) q.processor in
    let one : ℕ → ℕ = λ i. one_if (eqb r i) in
    let d : ℕ → ℕ = λ i. cond (leb (instant sys) t) (one i) 0 in
    let before = ran_all sys lo q mq t in
    let sum : total (λ x. cond (interferes sys q x) (ran_on sys q t x.task + d x.task) 0) sys.parts
    ≡ total (λ x. cond (interferes sys q x) (ran_on sys q t x.task) 0) sys.parts + total (λ x. cond (interferes sys q x) (d x.task) 0) sys.parts =
    total_cond_plus (interferes sys q) (λ x. ran_on sys q t x.task) (λ x. d x.task) sys.parts in
    elim (cases_Bool (leb (instant sys) t)) [
      | inl e ↦
          let is_one : (i : ℕ) → d i ≡ one i = λ i. cond-true (leb (instant sys) t) (one i) 0 e in
          let same : total (λ x. cond (interferes sys q x) (d x.task) 0) sys.parts ≡ total (λ x. cond (interferes sys q x) (one x.task) 0) sys.parts =
          total_same (λ x. cond (interferes sys q x) (d x.task) 0) (λ x. cond (interferes sys q x) (one x.task) 0) sys.parts (λ x m. ap (λ n. cond (interferes sys q x) n 0) (is_one x.task)) in
          omega (arith, one_task sys lo q mq r, leb-true (instant sys) t e, is_one q.task)
      | inr e ↦
          let is_none : (i : ℕ) → d i ≡ 0 = λ i. cond-false (leb (instant sys) t) (one i) 0 e in
          let none : total (λ x. cond (interferes sys q x) (d x.task) 0) sys.parts ≡ 0 =
          total_none (λ x. cond (interferes sys q x) (d x.task) 0) sys.parts
          (λ x m. ap (λ n. cond (interferes sys q x) n 0) (is_none x.task) ∙ cond_both (interferes sys q x) 0 0 (λ n. n ≡ 0) (λ e. refl) (λ e. refl)) in
          omega (arith, is_none q.task)
    ]

-- All of it lies far below the clock's end.
pub instant_low : (sys : System) → LaidOut sys → (q : Part) → q ∈ sys.parts → instant sys + q.window ≤ last_clock
instant_low sys lo q mq =
    omega (arith, lo.scaled q mq, total_bound (λ (x : Part). x.window) 100000 sys.parts (λ x m. (lo.scaled x m).2), lo.few_parts)

-- A part begins before the instant, counted from its task's release.
pub first_early : (sys : System) → LaidOut sys → (q x : Part) → x ∈ sys.parts → x.processor ≡ q.processor → first sys q x.task < instant sys
first_early sys lo q x mx xp =
    let e : begin_on sys.parts x.task x.processor ≡ first sys q x.task = ap (begin_on sys.parts x.task) xp in
    let k = segment_within sys lo x.task (segment_of sys.parts x) (part_segment sys lo x mx) in
    omega (arith, lo.scaled x mx, total_le (λ (p : Part). cond (eqb p.task x.task) p.window 0) (λ (p : Part). p.window) sys.parts (λ p m. cond_at_most (eqb p.task x.task) p.window))

-- A tick on time keeps the account of part x: what was left is left, or was run since the instant.
tick_kept : (sys : System) → LaidOut sys → (q x : Part) → x ∈ sys.parts → x.processor ≡ q.processor → (t m N c : ℕ) (j : Job) →
    m + instant sys ≡ t + first sys q x.task → job (at sys q t) x.task ≡ j → Fine sys x m N c j → OnTime sys (at sys q t) x.task j →
    left_on x.processor j + ran_on sys q t x.task ≤ left_on x.processor (aged (ran_in sys (at sys q t) x.task j) j) + ran_on sys q (suc t) x.task
unfolding ran_on
tick_kept sys lo q x mx xp t m N c closed em e fi on = omega arith
tick_kept sys lo q x mx xp t m N c (open_at a l now later) em e fi on =
    let s = at sys q t in
    let i = x.task in
    let st = fi.shape in
    let b = fi.birth in
    let more = cond (leb (instant sys) t) (one_if (eqb (runs_on sys s q.processor) i)) 0 in
    let here : now.proc ≡ x.processor → one_if (eqb (runs_on sys s now.proc) i) ≤ more = λ np.
    elim (cases_Bool (eqb (runs_on sys s now.proc) i)) [
      | inr f ↦ omega (arith, ap one_if f)
      | inl r ↦
          let nm = named_here sys lo s now.proc i a l now later (lo.known x mx).0 e (eqb-true (runs_on sys s now.proc) i r) in
          let same = segment_same sys lo i now (segment_of sys.parts x) (st.done, later, st.place) (part_segment sys lo x mx) np in
          let bg : now.begin ≡ begin_on sys.parts i x.processor = ap (λ (z : Segment). z.begin) same in
          let bg' : begin_on sys.parts i x.processor ≡ first sys q i = ap (begin_on sys.parts i) xp in
          let late : instant sys ≤ t = omega (arith, nm.1, b.1) in
          let z = cond-true (leb (instant sys) t) (one_if (eqb (runs_on sys s q.processor) i)) 0 (le-leb (instant sys) t late) in
          omega (arith, ap (λ (p : ℕ). one_if (eqb (runs_on sys s p) i)) (np ∙ xp))
    ] in
    omega (arith, left_kept x.processor (eqb (runs_on sys s now.proc) i) a l now later more on here)

-- The account of part x at time t, after the releases of that time: before its task's first release, or m ticks after it.
pub record Account (sys : System) (q x : Part) (t : ℕ) : Type 0 where
  pub waits : t + first sys q x.task < instant sys → DueIn sys x 0 (ran_on sys q t x.task) (at sys q t)
  pub goes : (m : ℕ) → m + instant sys ≡ t + first sys q x.task → MadeIn sys x m (ran_on sys q t x.task) (at sys q t)

module _ (sys : System) (lo : LaidOut sys) (sub : (i : ℕ) → i < sys.tasks → Subadditive (sys.curve i)) (q : Part) (mq : q ∈ sys.parts)
    (on_time : (t : ℕ) → t < instant sys + q.window → (i : ℕ) → i < sys.tasks → OnTime sys (at sys q t) i (job (at sys q t) i)) where
  chosen_at : (x : Part) → chosen sys q x ≡ true → x.processor ≡ q.processor
  chosen_at x c = eqb-true x.processor q.processor (and_parts (eqb x.processor q.processor) _ c).0

  subx : (x : Part) → x ∈ sys.parts → Subadditive (sys.curve x.task)
  subx x mx = sub x.task (lo.known x mx).0

  -- after the tick of time t
  ticked_waits : (x : Part) → x ∈ sys.parts → chosen sys q x ≡ true → (t : ℕ) → Account sys q x t → t + first sys q x.task < instant sys →
      DueIn sys x 0 (ran_on sys q (suc t) x.task) (ticked sys (at sys q t))
  unfolding ran_on
  ticked_waits x mx c t ac h =
      let s = at sys q t in
      let i = x.task in
      let du = due_ticked sys lo x mx (subx x mx) (ran_on sys q t i) (ran_in sys s i (job s i)) (s.room i) (job s i) (ac.waits h) in
      let du' = due_more sys lo x mx (subx x mx) 0 (ran_on sys q t i) (ran_on sys q (suc t) i) _ _ (omega arith) du in
      subst (Due sys x 0 (ran_on sys q (suc t) i) ((ticked sys s).room i)) (sym (job_ticked sys s i)) du'

  ticked_goes : (x : Part) → x ∈ sys.parts → chosen sys q x ≡ true → (t m : ℕ) → t < instant sys + q.window → Account sys q x t → m + instant sys ≡ t + first sys q x.task →
      DueIn sys x (m + 1) (ran_on sys q (suc t) x.task) (ticked sys (at sys q t))
  ticked_goes x mx c t m ht ac h =
      let s = at sys q t in
      let i = x.task in
      let ma = ac.goes m h in
      let k = tick_kept sys lo q x mx (chosen_at x c) t m _ _ (job s i) h refl ma.fine (on_time t ht i (lo.known x mx).0) in
      let du = made_ticked sys lo x mx (subx x mx) m (ran_on sys q t i) (ran_on sys q (suc t) i) (ran_in sys s i (job s i)) (s.room i) (job s i) ma k in
      subst (Due sys x (m + 1) (ran_on sys q (suc t) i) ((ticked sys s).room i)) (sym (job_ticked sys s i)) du

  pub account : (x : Part) → x ∈ sys.parts → chosen sys q x ≡ true → (t : ℕ) → t ≤ instant sys + q.window → Account sys q x t
  unfolding at ran_on
  account x mx c zero ht =
      let i = x.task in
      let early = first_early sys lo q x mx (chosen_at x c) in
      record {
        waits = λ h. wait_opens sys lo x mx (subx x mx) (due_at sys q 0) 0 0 (started sys) (due_known sys lo q 0)
            (λ m. let k = (due_in sys q 0 sys.parts i m).0 in omega arith)
            (due_first sys lo x mx (subx x mx) (sys.curve i) (job (started sys) i) (λ L. refl) (job_started sys i));
        goes = λ m h. absurd (omega arith);
      }
  account x mx c (suc t) ht =
      let i = x.task in
      let s = at sys q t in
      let ac = account x mx c t (omega arith) in
      let size : length (ticked sys s).jobs ≡ sys.tasks = length_ticked sys s ∙ (calls_tracked sys lo q t (omega (arith, instant_low sys lo q mq))).sized in
      let is = due_at sys q (suc t) in
      let n = ran_on sys q (suc t) i in
      record {
        waits = λ h. wait_opens sys lo x mx (subx x mx) is 0 n (ticked sys s) (due_known sys lo q (suc t))
            (λ m. let k = (due_in sys q (suc t) sys.parts i m).0 in omega arith)
            (ticked_waits x mx c t ac (omega arith));
        goes = λ m h.
            let tried : i ∈ is = due_has sys q (suc t) sys.parts x mx c (omega arith) in
            let du : DueIn sys x m n (ticked sys s) = elim (cases_eq m 0) [
              | inl z ↦ subst (λ k. DueIn sys x k n (ticked sys s)) (sym z) (ticked_waits x mx c t ac (omega arith))
              | inr nz ↦
                  let e : (m - 1) + 1 ≡ m = omega arith in
                  subst (λ k. DueIn sys x k n (ticked sys s)) e (ticked_goes x mx c t (m - 1) (omega arith) ac (omega arith))
            ] in
            due_opens sys lo x mx (subx x mx) is m n (ticked sys s) (due_known sys lo q (suc t)) size tried du;
      }

  chosen_own : chosen sys q q ≡ true
  chosen_own = and_from (eqb q.processor q.processor) _ (eq-eqb q.processor q.processor refl) (or_left (eqb q.task q.task) _ (eq-eqb q.task q.task refl))

  chosen_before : (x : Part) → interferes sys q x ≡ true → chosen sys q x ≡ true
  chosen_before x h =
      let k = and_parts (eqb x.processor q.processor) (sys.before x.task q.task) h in
      and_from (eqb x.processor q.processor) _ k.0 (or_right (eqb x.task q.task) _ k.1)

  -- Once the first window of q is over, nothing of it is left.
  own_none : (m c : ℕ) (j : Job) → m ≡ first sys q q.task + q.window → Fine sys q m (sys.curve q.task m) c j → left_on q.processor j ≡ 0
  own_none m c closed e fi = refl
  own_none m c (open_at a l now later) e fi =
      let i = q.task in
      let b = fi.birth in
      let laws = lo.curves i (lo.known q mq).0 in
      let in_span = segment_within sys lo i (segment_of sys.parts q) (part_segment sys lo q mq) in
      let up = curve_mono (sys.curve i) laws.steps m (span_of sys.parts i) (omega arith) in
      let lone = lo.exclusive i (lo.known q mq).0 in
      elim (cases_eq (left_on q.processor (open_at a l now later)) 0) [
        | inl z ↦ z
        | inr nz ↦
            let young = left_young sys lo q mq a l now later fi.shape (omega arith) in
            let later_born : 1 ≤ b.0 = omega (arith, b.1) in
            absurd (omega (arith, b.2, curve_mono (sys.curve i) laws.steps 1 b.0 later_born, laws.single))
      ]

  own_ran : q.cost ≤ ran_on sys q (instant sys + q.window) q.task
  own_ran =
      let i = q.task in
      let t = instant sys + (q.window - 1) in
      let sc = lo.scaled q mq in
      let m = first sys q i + (q.window - 1) in
      let du = ticked_goes q mq chosen_own t m (omega arith) (account q mq chosen_own t (omega arith)) (omega arith) in
      let none = own_none (m + 1) (ran_on sys q (suc t) i) _ (omega arith) du.fine in
      let laws = lo.curves i (lo.known q mq).0 in
      let one : 1 ≤ sys.curve i (m + 1) = omega (arith, curve_mono (sys.curve i) laws.steps 1 (m + 1) (omega arith), laws.single) in
      let e : suc t ≡ instant sys + q.window = omega arith in
      omega (arith, du.fine.work, mul-le-mul_right q.cost one, one-mul q.cost, ap (λ z. ran_on sys q z i) e)

  -- What goes before q and is not ready has been run as often as its curve admits.
  before_ran_job : (x : Part) → x ∈ sys.parts → x.processor ≡ q.processor → (k m c : ℕ) (j : Job) → m ≡ k + first sys q x.task →
      Fine sys x m (sys.curve x.task (m + 1)) c j → ready_on x.processor j ≡ false → sys.curve x.task (k + 1) * x.cost ≤ c
  before_ran_job x mx xp k m c closed e fi nr =
      let laws = lo.curves x.task (lo.known x mx).0 in
      omega (arith, fi.work, mul-le-mul_right x.cost (curve_mono (sys.curve x.task) laws.steps (k + 1) (m + 1) (omega arith)))
  before_ran_job x mx xp k m c (open_at a l now later) e fi nr =
      let i = x.task in
      let laws = lo.curves i (lo.known x mx).0 in
      let f = sys.curve i in
      let b = fi.birth in
      elim (cases_eq (left_on x.processor (open_at a l now later)) 0) [
        | inl z ↦ omega (arith, fi.work, mul-le-mul_right x.cost (curve_mono f laws.steps (k + 1) (m + 1) (omega arith)))
        | inr nz ↦
            let early = left_early sys lo x mx a l now later fi.shape (omega arith) nr in
            let bg : begin_on sys.parts i x.processor ≡ first sys q i = ap (begin_on sys.parts i) xp in
            let born : k + 1 ≤ b.0 = omega (arith, b.1) in
            let up : suc (f (k + 1)) ≤ f (m + 1) = omega (arith, b.2, curve_mono f laws.steps (k + 1) b.0 born) in
            omega (
              arith,
              fi.work,
              mul-le-mul_right x.cost up,
              suc-mul (f (k + 1)) x.cost,
              left_most sys i x.processor (open_at a l now later) fi.shape,
              on_part sys lo x mx,
            )
      ]

  before_ran : (x : Part) → x ∈ sys.parts → interferes sys q x ≡ true → (k : ℕ) → k < q.window → runs_on sys (at sys q (instant sys + k)) q.processor ≡ q.task →
      sys.curve x.task (k + 1) * x.cost ≤ ran_on sys q (instant sys + k) x.task
  before_ran x mx h k hk r =
      let t = instant sys + k in
      let s = at sys q t in
      let i = x.task in
      let hi : i < sys.tasks = (lo.known x mx).0 in
      let c = chosen_before x h in
      let xp = chosen_at x c in
      let b = (and_parts (eqb x.processor q.processor) (sys.before i q.task) h).1 in
      let m = k + first sys q i in
      let ma = (account x mx c t (omega arith)).goes m (omega arith) in
      let first_is = (named_picked sys lo s q.processor q.task (task_not_255 sys lo q.task (lo.known q mq).0) r).first in
      let nr : ready_on x.processor (job s i) ≡ false = elim (cases_Bool (ready_on x.processor (job s i))) [
        | inr f ↦ f
        | inl y ↦ absurd (first_is i hi (subst (λ p. ready_on p (job s i) ≡ true) xp y) b)
      ] in
      before_ran_job x mx xp k m (ran_on sys q t i) (job s i) refl ma.fine nr

  -- So the tick that ends q's work is a response time.
  pub on_time_not_overloaded : Overloaded sys q → ⊥
  on_time_not_overloaded over =
      let i = q.task in
      let sc = lo.scaled q mq in
      let cr = crosses (λ t. ran_on sys q t i) q.cost (instant sys) q.window (omega (arith, ran_none sys q (instant sys) i (omega arith))) own_ran in
      let k = cr.0 in
      let t = instant sys + k in
      let r = ran_step sys q t i (omega (arith, cr.2, cr.3)) in
      let each : (x : Part) → x ∈ sys.parts → cond (interferes sys q x) (sys.curve x.task (k + 1) * x.cost) 0 ≤ cond (interferes sys q x) (ran_on sys q (suc t) x.task) 0 =
      λ x mx. elim (cases_Bool (interferes sys q x)) [
        | inl h ↦ omega (
          arith,
          cond-true (interferes sys q x) (sys.curve x.task (k + 1) * x.cost) 0 h,
          cond-true (interferes sys q x) (ran_on sys q (suc t) x.task) 0 h,
          before_ran x mx h k cr.1 r,
          ran_more sys q t x.task,
        )
        | inr h ↦ omega (arith, cond-false (interferes sys q x) (sys.curve x.task (k + 1) * x.cost) 0 h)
      ] in
      omega (
        arith,
        over (k + 1) (omega arith) (omega (arith, cr.1)),
        ran_all sys lo q mq (suc t),
        cr.3,
        total_le (λ (x : Part). cond (interferes sys q x) (sys.curve x.task (k + 1) * x.cost) 0) (λ (x : Part). cond (interferes sys q x) (ran_on sys q (suc t) x.task) 0) sys.parts each,
      )
