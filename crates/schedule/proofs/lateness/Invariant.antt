-- The invariant of a machine started from an accepted plan: what goes before a part, and the part itself, fit into its window.
use Rattle.std.proofs.Common.{◌≡◌, ℕ, ◌+◌, ◌-◌, ◌<◌, ◌≤◌, true, false, ◌⊎◌, List, [], ◌∷◌, sym, refl, ap, ◌∙◌, inl, inr, add-zero, arith}
use Rattle.std.proofs.lemmas.Bool.{cases_Bool, cases_eq, cases_lt, eq-eqb}
use Rattle.schedule.specs.declared.Part.{Part}
use Rattle.schedule.specs.Lists.{◌∈◌, one_if}
use Rattle.schedule.specs.Layout.{Segment, segments, System, Suffices, InTime, LaidOut}
use Rattle.schedule.specs.TickRule.{Job, closed, open_at, State, job, started, ready_on, runs_on, hand_over, aged, ran_in, ticked, opened}
use Rattle.schedule.specs.TickRule.{released, finished, Call, release, finish, tick, leaves, after_call}
use Rattle.schedule.proofs.facts.Lists.{to_T}
use Rattle.schedule.proofs.facts.Ranks.{before_trans}
use Rattle.schedule.proofs.facts.Running.{ready_from, Picked, who_runs, ready_runs}
use Rattle.schedule.proofs.facts.Calls.{job_ticked, job_released, job_released_other, job_finished, job_finished_other, job_started}
use Rattle.schedule.proofs.facts.Calls.{release_either, finish_either, tick_either}
use Rattle.schedule.proofs.facts.Segments.{segment_of, part_segment, segment_part, segment_same, segment_scaled}
use Rattle.schedule.proofs.facts.Jobs.{aged_either, Shaped, shaped_in, linked, next_later}
use Rattle.schedule.proofs.lateness.Ahead.{ahead, load, Formed, formed_closed, formed_start, formed_tick, formed_release, formed_finish}
use Rattle.schedule.proofs.lateness.Ahead.{ahead_start, ahead_any, ahead_ran, ahead_idle, ahead_release, ahead_finish}

-- Processor time has gone to what goes before part q for `since` ticks, less than its response time R, and the work ahead is what the
-- curves admit in that time and L ticks more.
pub record Busy (sys : System) (s : State) (q : Part) (R : ℕ) : Type 0 where
  pub since : ℕ
  pub short : since < R
  pub bound : (L : ℕ) → ahead sys s q L + since ≤ load sys q (L + since)

-- Some ticks, within the window, suffice for what is left of the part and all that goes before it.
pub record Fits (sys : System) (s : State) (q : Part) (age left : ℕ) (g : Segment) : Type 0 where
  pub by : ℕ
  pub enough : left + ahead sys s q by ≤ by
  pub within : by + age ≤ g.end

-- A job at part q's segment that has begun still has the ticks it needs.
abbrev pub Begun : System → State → Part → Job → Type 0
Begun sys s q closed = Unit {0}
Begun sys s q (open_at age left g gs) = g.proc ≡ q.processor → g.begin < age → Fits sys s q age left g

-- The invariant.
pub record Safe (sys : System) (s : State) : Type 0 where
  pub formed : Formed sys s
  pub busy : (q : Part) → q ∈ sys.parts → (R : ℕ) → Suffices sys q R → Busy sys s q R
  pub begun : (q : Part) → q ∈ sys.parts → Begun sys s q (job s q.task)

-- Less work ahead keeps both.
busy_less : (sys : System) (s t : State) (q : Part) (R : ℕ) → ((L : ℕ) → ahead sys t q L ≤ ahead sys s q L) → Busy sys s q R → Busy sys t q R
busy_less sys s t q R le b = record { since = b.since; short = b.short; bound = λ L. omega (arith, le L, b.bound L) }

begun_less : (sys : System) (s t : State) (q : Part) → ((L : ℕ) → ahead sys t q L ≤ ahead sys s q L) → (j : Job) → Begun sys s q j → Begun sys t q j
begun_less sys s t q le closed b = tt
begun_less sys s t q le (open_at age left g gs) b = λ e l.
    let f : Fits sys s q age left g = b e l in
    record { by = f.by; enough = omega (arith, le f.by, f.enough); within = f.within }

begun_opened : (sys : System) (s : State) (q : Part) (segs : List Segment) → Begun sys s q (hand_over 0 segs)
begun_opened sys s q [] = tt
begun_opened sys s q (g ∷ gs) = λ e l. absurd (omega arith)

-- In a tick a task that goes before task i runs on processor p, or none of them was ready there.
ahead_cases : (sys : System) → LaidOut sys → (s : State) (p i : ℕ) → i < sys.tasks →
    ((k : ℕ) × Picked sys s p k × (sys.before k i ≡ true)) ⊎ ((k : ℕ) → k < sys.tasks → sys.before k i ≡ true → ready_on p (job s k) ≡ false)
ahead_cases sys lo s p i h =
    elim (who_runs sys lo s p) [
      | inl n ↦ inr (λ k hk b. n.unready k hk)
      | inr pk ↦ elim (cases_Bool (sys.before (runs_on sys s p) i)) [
        | inl b ↦ inl (runs_on sys s p, pk, b)
        | inr nb ↦ inr (λ k hk b. elim (cases_Bool (ready_on p (job s k))) [
          | inl r ↦ absurd (to_T false (sym nb ∙ elim (ready_runs sys lo s p k hk r).1 [
            | inl e ↦ rw e b
            | inr d ↦ before_trans sys lo (runs_on sys s p) k i pk.task hk h d b
          ]))
          | inr r ↦ r
        ])
      ]
    ]

busy_short : (sys : System) → LaidOut sys → (s : State) (q : Part) → q ∈ sys.parts → (R : ℕ) → Suffices sys q R → (x : ℕ) → x < R →
    ahead sys (ticked sys s) q 0 + (x + 1) ≤ load sys q (0 + (x + 1)) → x + 1 < R
busy_short sys lo s q m R rs x h bd =
    elim (cases_eq (x + 1) R) [
      | inl e ↦ let d : load sys q (0 + (x + 1)) ≡ load sys q R = ap (load sys q) (omega arith) in
          absurd (omega (arith, bd, rs.2, (lo.scaled q m).0))
      | inr ne ↦ omega arith
    ]

fits_busy : (sys : System) (s : State) (q : Part) (age left : ℕ) (g : Segment) (R : ℕ) → Suffices sys q R → Busy sys s q R → left ≤ q.cost → q.window + age ≤ g.end → Fits sys s q age left g
fits_busy sys s q age left g R rs b hl hw =
    let e : load sys q ((R - b.since) + b.since) ≡ load sys q R = ap (load sys q) (omega (arith, b.short)) in
    record {
      by = R - b.since;
      enough = omega (arith, b.bound (R - b.since), rs.2, b.short);
      within = omega (arith, rs.1);
    }

busy_tick : (sys : System) → LaidOut sys → (s : State) → Formed sys s → (q : Part) → q ∈ sys.parts → (R : ℕ) → Suffices sys q R → Busy sys s q R → Busy sys (ticked sys s) q R
busy_tick sys lo s fm q m R rs b =
    elim (ahead_cases sys lo s q.processor q.task (lo.known q m).0) [
      | inl k ↦
          let bd : (L : ℕ) → ahead sys (ticked sys s) q L + (b.since + 1) ≤ load sys q (L + (b.since + 1)) = λ L.
          let e : load sys q (L + (b.since + 1)) ≡ load sys q ((L + 1) + b.since) = ap (load sys q) (omega arith) in
          omega (arith, ahead_ran sys lo s fm q k.0 k.1 k.2 L, b.bound (L + 1)) in
          record { since = b.since + 1; short = busy_short sys lo s q m R rs b.since b.short (bd 0); bound = bd }
      | inr un ↦ record { since = 0; short = rs.0; bound = λ L. rw (add-zero L) (omega (arith, ahead_idle sys lo s fm q un L)) }
    ]

-- From its begin on, an open job of q's task at q's segment has the ticks it needs.
pub fits_now : (sys : System) → LaidOut sys → InTime sys → (s : State) → Safe sys s → (q : Part) → q ∈ sys.parts →
    (age left : ℕ) (g : Segment) (gs : List Segment) → job s q.task ≡ open_at age left g gs → g.proc ≡ q.processor → g.begin ≤ age → Fits sys s q age left g
fits_now sys lo it s sf q m age left g gs e ep hb =
    let sh : Shaped (segments sys.parts q.task) age left g gs = rw e at (sf.formed.shapes q.task (lo.known q m).0) in
    let k : g ≡ segment_of sys.parts q = segment_same sys lo q.task g (segment_of sys.parts q) (shaped_in (segments sys.parts q.task) age left g gs sh) (part_segment sys lo q m) ep in
    elim (cases_lt g.begin age) [
      | inl l ↦ (rw e at (sf.begun q m)) ep l
      | inr l ↦ fits_busy sys s q age left g (it q m).0 (it q m).1 (sf.busy q m (it q m).0 (it q m).1)
          (omega (arith, sh.most, ap (λ z. z.cost) k)) (omega (arith, ap (λ z. z.end) k, ap (λ z. z.begin) k))
    ]

-- And it still has them after a tick.
pub fits_tick : (sys : System) → LaidOut sys → InTime sys → (s : State) → Safe sys s → (q : Part) → q ∈ sys.parts →
    (age left : ℕ) (g : Segment) (gs : List Segment) → job s q.task ≡ open_at age left g gs → g.proc ≡ q.processor → g.begin ≤ age →
    Fits sys (ticked sys s) q (age + 1) (left - one_if (ran_in sys s q.task (open_at age left g gs))) g
fits_tick sys lo it s sf q m age left g gs e ep hb =
    let f : Fits sys s q age left g = fits_now sys lo it s sf q m age left g gs e ep hb in
    let h : q.task < sys.tasks = (lo.known q m).0 in
    let sh : Shaped (segments sys.parts q.task) age left g gs = rw e at (sf.formed.shapes q.task h) in
    let rd : ready_on q.processor (job s q.task) ≡ true = rw e (ready_from q.processor age left g gs ep hb sh.some) in
    let rr = ready_runs sys lo s q.processor q.task h rd in
    let same : ahead sys s q ((f.by - 1) + 1) ≡ ahead sys s q f.by = ap (ahead sys s q) (omega (arith, f.enough, sh.some)) in
    elim rr.1 [
      | inl n ↦
          let r : ran_in sys s q.task (open_at age left g gs) ≡ true = eq-eqb (runs_on sys s g.proc) q.task (ap (runs_on sys s) ep ∙ n) in
          rw r (record {
            by = f.by - 1;
            enough = omega (arith, f.enough, sh.some, ahead_any sys lo s sf.formed q (f.by - 1));
            within = omega (arith, f.enough, f.within, sh.some);
          })
      | inr b ↦ record {
        by = f.by - 1;
        enough = omega (arith, f.enough, sh.some, ahead_ran sys lo s sf.formed q (runs_on sys s q.processor) rr.0 b (f.by - 1));
        within = omega (arith, f.enough, f.within, sh.some);
      }
    ]

begun_over : (sys : System) → LaidOut sys → (s : State) (q : Part) → (age left : ℕ) (g : Segment) (gs : List Segment) → Shaped (segments sys.parts q.task) age left g gs → Begun sys s q (hand_over (age + 1) gs)
begun_over sys lo s q age left g [] sh = tt
begun_over sys lo s q age left g (h ∷ gs) sh = λ e l. absurd (omega (arith, (next_later (segments sys.parts q.task) (linked sys lo q.task) age left g h gs sh).0))

begun_tick : (sys : System) → LaidOut sys → InTime sys → (s : State) → Safe sys s → (q : Part) → q ∈ sys.parts → (j : Job) → job s q.task ≡ j →
    Begun sys (ticked sys s) q (aged (ran_in sys s q.task j) j)
begun_tick sys lo it s sf q m closed e = tt
begun_tick sys lo it s sf q m (open_at age left g gs) e =
    aged_either (ran_in sys s q.task (open_at age left g gs)) age left g gs (Begun sys (ticked sys s) q)
    (λ w. let sh : Shaped (segments sys.parts q.task) age left g gs = rw e at (sf.formed.shapes q.task (lo.known q m).0) in
    begun_over sys lo (ticked sys s) q age left g gs sh)
    (λ n d ep l. fits_tick sys lo it s sf q m age left g gs e ep (omega arith))

-- So no part is late.
pub not_late : (sys : System) → LaidOut sys → InTime sys → (s : State) → Safe sys s → (i : ℕ) → i < sys.tasks →
    (age left : ℕ) (g : Segment) (gs : List Segment) → job s i ≡ open_at age left g gs →
    (left - one_if (ran_in sys s i (open_at age left g gs)) ≡ 0 → ⊥) → age + 1 < g.end
not_late sys lo it s sf i h age left g gs e some =
    let sh : Shaped (segments sys.parts i) age left g gs = rw e at (sf.formed.shapes i h) in
    let mg : g ∈ segments sys.parts i = shaped_in (segments sys.parts i) age left g gs sh in
    elim (cases_lt age g.begin) [
      | inl l ↦ omega (arith, (segment_scaled sys lo i g mg).1)
      | inr l ↦
          let a : (q : Part) × (q ∈ sys.parts) × (q.task ≡ i) × (g ≡ segment_of sys.parts q) = segment_part sys lo i g mg in
          let f : Fits sys (ticked sys s) a.0 (age + 1) (left - one_if (ran_in sys s a.0.task (open_at age left g gs))) g =
          fits_tick sys lo it s sf a.0 a.1 age left g gs (ap (job s) a.2 ∙ e) (ap (λ z. z.proc) a.3) l in
          let t : left - one_if (ran_in sys s a.0.task (open_at age left g gs)) ≡ left - one_if (ran_in sys s i (open_at age left g gs)) =
          ap (λ (k : ℕ). left - one_if (ran_in sys s k (open_at age left g gs))) a.2 in
          omega (arith, f.enough, f.within)
    ]

-- A release that is taken finds the job closed.
pub release_closed : (sys : System) → LaidOut sys → (s : State) → Safe sys s → (i : ℕ) → i < sys.tasks → 1 ≤ s.room i 1 → job s i ≡ closed
release_closed sys lo s sf i h r = formed_closed sys lo s sf.formed i h r

-- The invariant holds at the start and is kept by every call.
pub safe_start : (sys : System) → LaidOut sys → InTime sys → Safe sys (started sys)
safe_start sys lo it = record {
  formed = formed_start sys lo;
  busy = λ q m R rs. record { since = 0; short = rs.0; bound = λ L. rw (add-zero L) (omega (arith, ahead_start sys lo q L)) };
  begun = λ q m. rw (job_started sys q.task) tt;
}

safe_tick : (sys : System) → LaidOut sys → InTime sys → (s : State) → Safe sys s → Safe sys (ticked sys s)
safe_tick sys lo it s sf = record {
  formed = formed_tick sys lo s sf.formed;
  busy = λ q m R rs. busy_tick sys lo s sf.formed q m R rs (sf.busy q m R rs);
  begun = λ q m. rw (job_ticked sys s q.task) (begun_tick sys lo it s sf q m (job s q.task) refl);
}

safe_release : (sys : System) → LaidOut sys → (s : State) → Safe sys s → (i : ℕ) → i < sys.tasks → 1 ≤ s.room i 1 → Safe sys (released sys s i)
safe_release sys lo s sf i h r = record {
  formed = formed_release sys lo s sf.formed i h r;
  busy = λ q m R rs. busy_less sys s (released sys s i) q R (ahead_release sys lo s sf.formed q i h r) (sf.busy q m R rs);
  begun = λ q m. elim (cases_eq q.task i) [
    | inl e ↦ let j : job (released sys s i) q.task ≡ opened sys q.task = rw e (job_released sys s i (omega (arith, sf.formed.size))) in
        rw j (begun_opened sys (released sys s i) q (segments sys.parts q.task))
    | inr ne ↦ rw (job_released_other sys s i q.task ne)
        (begun_less sys s (released sys s i) q (ahead_release sys lo s sf.formed q i h r) (job s q.task) (sf.begun q m))
  ];
}

safe_finish : (sys : System) → LaidOut sys → (s : State) → Safe sys s → (i : ℕ) → i < sys.tasks → Safe sys (finished s i)
safe_finish sys lo s sf i h = record {
  formed = formed_finish sys lo s sf.formed i h;
  busy = λ q m R rs. busy_less sys s (finished s i) q R (ahead_finish sys s q i) (sf.busy q m R rs);
  begun = λ q m. elim (cases_eq q.task i) [
    | inl e ↦ let j : job (finished s i) q.task ≡ closed = rw e (job_finished s i) in rw j tt
    | inr ne ↦ rw (job_finished_other s i q.task ne)
        (begun_less sys s (finished s i) q (ahead_finish sys s q i) (job s q.task) (sf.begun q m))
  ];
}

pub safe_call : (sys : System) → LaidOut sys → InTime sys → (s : State) → Safe sys s → (c : Call) → Safe sys (after_call sys s c)
safe_call sys lo it s sf (release i) =
    release_either sys s i (λ an. Safe sys (leaves sys s (release i) an)) (λ h. sf) (λ h z. sf) (λ h r. safe_release sys lo s sf i h r)
safe_call sys lo it s sf (finish i) =
    finish_either sys s i (λ an. Safe sys (leaves sys s (finish i) an)) (λ h. sf) (λ h. sf) (λ h. safe_finish sys lo s sf i h)
safe_call sys lo it s sf (tick size) =
    tick_either sys s size (λ an. Safe sys (leaves sys s (tick size) an)) sf sf (safe_tick sys lo it s sf)
