-- Every history made from a safe state follows every job of it.
use Rattle.std.proofs.Common.{◌≡◌, ℕ, ◌+◌, ◌-◌, ◌<◌, ◌≤◌, Bool, true, false, eqb, List, [], ◌∷◌, length, sym, refl, ap, ◌∙◌, subst, inl, inr}
use Rattle.std.proofs.lemmas.Bool.{cases_eq, eq-eqb, ne_eqb, cond-true, cond-false, both_ways}
use Rattle.schedule.specs.Lists.{one_if}
use Rattle.schedule.specs.Layout.{Segment, segments, System, LaidOut}
use Rattle.schedule.specs.TickRule.{Job, closed, open_at, State, job, started, ready_on, runs_on, answer, aged, ran_in, released, finished, Call}
use Rattle.schedule.specs.TickRule.{release, finish, tick, Answer, taken, ran, refused, answers, leaves, after_call, Event, History, history}
use Rattle.schedule.specs.Promise.{ticks_in, releases, finishes, bytes}
use Rattle.schedule.proofs.facts.Lists.{cond_neither}
use Rattle.schedule.proofs.facts.Running.{named_picked, task_not_255, named_here}
use Rattle.schedule.proofs.facts.Calls.{job_ticked, job_released_other, job_finished, job_finished_other, release_either, finish_either}
use Rattle.schedule.proofs.facts.Calls.{tick_either}
use Rattle.schedule.proofs.facts.Segments.{segment_scaled}
use Rattle.schedule.proofs.facts.Jobs.{Shape, shaped_in}
use Rattle.schedule.proofs.promises.Follows.{Names, Follows, over, starts, ends, stays, sleeps, ages}
use Rattle.schedule.proofs.promises.Named.{names_quiet, names_none, names_one}

-- What the promises need to know of the states that a machine can be in.
pub record SafeFacts (sys : System) (Safe : State → Type 0) : Type 0 where
  pub safe_start : Safe (started sys)
  pub safe_call : (s : State) → Safe s → (c : Call) → Safe (after_call sys s c)
  pub size : (s : State) → Safe s → length s.jobs ≡ sys.tasks
  pub shape : (s : State) → Safe s → (i : ℕ) → i < sys.tasks → Shape (segments sys.parts i) (job s i)
  pub release_closed : (s : State) → Safe s → (i : ℕ) → i < sys.tasks → 1 ≤ s.room i 1 → job s i ≡ closed
  pub not_late : (s : State) → Safe s → (i : ℕ) → i < sys.tasks → (age left : ℕ) (g : Segment) (gs : List Segment) → job s i ≡ open_at age left g gs →
      (left - one_if (ran_in sys s i (open_at age left g gs)) ≡ 0 → ⊥) → age + 1 < g.end

module _ (sys : System) (laid : LaidOut sys) (Safe : State → Type 0) (facts : SafeFacts sys Safe) (s : State) (safe : Safe s) (i : ℕ) (i< : i < sys.tasks) where
  no_255 : i ≡ 255 → ⊥
  no_255 = task_not_255 sys laid i i<

  -- A refusal, and what is not about task i, leaves the job as it is.
  unmoved : (e : Event) (es : History) (j : Job) → releases i e ≡ false → finishes i e ≡ false → ticks_in e ≡ 0 → bytes e ≡ [] → j ≡ job s i →
      Follows (segments sys.parts i) i j es → Follows (segments sys.parts i) i (job s i) (e ∷ es)
  unmoved e es j r f t b q k =
      stays (facts.shape s safe i i<) r f t (names_quiet i e no_255 b) (subst (λ j. Follows (segments sys.parts i) i j es) q k)

  after_release : (k : ℕ) (es : History) → Follows (segments sys.parts i) i (job (after_call sys s (release k)) i) es →
      Follows (segments sys.parts i) i (job s i) ((release k, answers sys s (release k)) ∷ es)
  after_release k es =
      release_either sys s k P
      (λ a h. unmoved (release k, refused 13 k) es (job s i) (cond_neither (eqb k i)) refl refl refl refl h)
      (λ a z h. unmoved (release k, refused 14 k) es (job s i) (cond_neither (eqb k i)) refl refl refl refl h)
      made
    where
      P : Answer → Type 0
      P a = Follows (segments sys.parts i) i (job (leaves sys s (release k) a) i) es → Follows (segments sys.parts i) i (job s i) ((release k, a) ∷ es)

      made : k < sys.tasks → 1 ≤ s.room k 1 → P taken
      made a b h = elim (cases_eq k i) [
        | inl e ↦ subst (λ j. Follows (segments sys.parts i) i j ((release k, taken) ∷ es))
            (sym (facts.release_closed s safe i i< (subst (λ x. 1 ≤ s.room x 1) e b))) (starts (cond-true _ _ _ (eq-eqb k i e)))
        | inr n ↦ unmoved (release k, taken) es (job (released sys s k) i) (cond-false _ _ _ (ne_eqb k i n)) refl refl refl
            (job_released_other sys s k i (λ e. n (sym e))) h
      ]

  after_finish : (k : ℕ) (es : History) → Follows (segments sys.parts i) i (job (after_call sys s (finish k)) i) es →
      Follows (segments sys.parts i) i (job s i) ((finish k, answers sys s (finish k)) ∷ es)
  after_finish k es =
      finish_either sys s k P
      (λ a h. unmoved (finish k, refused 13 k) es (job s i) refl (cond_neither (eqb k i)) refl refl refl h)
      (λ a h. unmoved (finish k, refused 15 k) es (job s i) refl (cond_neither (eqb k i)) refl refl refl h)
      (λ a. made)
    where
      P : Answer → Type 0
      P a = Follows (segments sys.parts i) i (job (leaves sys s (finish k) a) i) es → Follows (segments sys.parts i) i (job s i) ((finish k, a) ∷ es)

      made : P taken
      made h = elim (cases_eq k i) [
        | inl e ↦ ends (facts.shape s safe i i<) refl (cond-true _ _ _ (eq-eqb k i e)) refl (names_quiet i (finish k, taken) no_255 refl)
            (subst (λ j. Follows (segments sys.parts i) i j es) (ap (λ x. job (finished s k) x) (sym e) ∙ job_finished s k) h)
        | inr n ↦ unmoved (finish k, taken) es (job (finished s k) i) refl (cond-false _ _ _ (ne_eqb k i n)) refl refl
            (job_finished_other s k i (λ e. n (sym e))) h
      ]

  -- A task runs nowhere but on the processor of its job's segment.
  runs_here : (p age left : ℕ) (g : Segment) (gs : List Segment) → job s i ≡ open_at age left g gs → runs_on sys s p ≡ i → g.proc ≡ p
  runs_here p age left g gs e r = (named_here sys laid s p i age left g gs i< e r).0

  names_ran : (r age left : ℕ) (g : Segment) (gs : List Segment) → job s i ≡ open_at age left g gs → g.proc < sys.procs →
      Names i (tick r, ran (answer sys s)) (ran_in sys s i (open_at age left g gs)) g.proc
  names_ran r age left g gs e k = elim (cases_eq (runs_on sys s g.proc) i) [
    | inl f ↦ subst (λ b. Names i (tick r, ran (answer sys s)) b g.proc) (sym (eq-eqb _ _ f))
        (names_one sys s r i g.proc no_255 k f (λ p a h. runs_here p age left g gs e h))
    | inr f ↦ subst (λ b. Names i (tick r, ran (answer sys s)) b g.proc) (sym (ne_eqb _ _ f))
        (let n = names_none sys s r i no_255 (λ p a h. f (ap (runs_on sys s) (runs_here p age left g gs e h) ∙ h)) in record { at = n.at })
  ]

  ran_here : (r : ℕ) (es : History) (j : Job) → job s i ≡ j → Follows (segments sys.parts i) i (aged (ran_in sys s i j) j) es →
      Follows (segments sys.parts i) i j ((tick r, ran (answer sys s)) ∷ es)
  ran_here r es closed e h = sleeps refl refl refl (names_none sys s r i no_255 unready) h
    where
      unready : (p : ℕ) → p < sys.procs → runs_on sys s p ≡ i → ⊥
      unready p a f =
          let z : ◌≡◌ {A = Bool} false true = subst (λ j. ready_on p j ≡ true) e (named_picked sys laid s p i no_255 f).ready in
          both_ways true (sym z) refl
  ran_here r es (open_at age left g gs) e h =
      let sh : Shape (segments sys.parts i) (open_at age left g gs) = subst (Shape (segments sys.parts i)) e (facts.shape s safe i i<) in
      ages (ran_in sys s i (open_at age left g gs)) age left g gs sh refl refl refl
      (names_ran r age left g gs e (segment_scaled sys laid i g (shaped_in (segments sys.parts i) age left g gs sh)).2) (facts.not_late s safe i i< age left g gs e) h

  after_tick : (r : ℕ) (es : History) → Follows (segments sys.parts i) i (job (after_call sys s (tick r)) i) es →
      Follows (segments sys.parts i) i (job s i) ((tick r, answers sys s (tick r)) ∷ es)
  after_tick r es =
      tick_either sys s r P
      (λ h. unmoved (tick r, refused 16 0) es (job s i) refl refl refl refl refl h)
      (λ h. unmoved (tick r, refused 17 sys.procs) es (job s i) refl refl refl refl refl h)
      (λ h. ran_here r es (job s i) refl (subst (λ j. Follows (segments sys.parts i) i j es) (job_ticked sys s i) h))
    where
      P : Answer → Type 0
      P a = Follows (segments sys.parts i) i (job (leaves sys s (tick r) a) i) es → Follows (segments sys.parts i) i (job s i) ((tick r, a) ∷ es)

  pub follows_call : (c : Call) (es : History) → Follows (segments sys.parts i) i (job (after_call sys s c) i) es →
      Follows (segments sys.parts i) i (job s i) ((c, answers sys s c) ∷ es)
  follows_call (release k) es h = after_release k es h
  follows_call (finish k) es h = after_finish k es h
  follows_call (tick r) es h = after_tick r es h

-- Every history made from a safe state follows every job of it.
pub follows : (sys : System) → LaidOut sys → (Safe : State → Type 0) (facts : SafeFacts sys Safe) (i : ℕ) → i < sys.tasks → (cs : List Call) (s : State) → Safe s →
    Follows (segments sys.parts i) i (job s i) (history sys s cs)
follows sys laid Safe facts i i< [] s safe = over (facts.shape s safe i i<)
follows sys laid Safe facts i i< (c ∷ cs) s safe =
    follows_call sys laid Safe facts s safe i i< c (history sys (after_call sys s c) cs)
    (follows sys laid Safe facts i i< cs (after_call sys s c) (facts.safe_call s safe c))
