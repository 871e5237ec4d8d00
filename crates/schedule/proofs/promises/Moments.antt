-- The moments of a history: the state at each, and since when its jobs have been open.
use Rattle.std.proofs.Common.{◌≡◌, ℕ, ◌+◌, ◌<◌, Bool, false, eqb, List, [], ◌∷◌, ◌++◌, sym, refl, ap, ◌∙◌, subst, inl, inr, append_assoc, append-nil, arith}
use Rattle.std.proofs.lemmas.Bool.{cases_eq, ne_eqb, or_from, cond-false}
use Rattle.schedule.specs.Layout.{Segment, segments, System}
use Rattle.schedule.specs.TickRule.{Job, closed, open_at, State, job, started, answer, hand_over, aged, ran_in, released, finished, Call, release}
use Rattle.schedule.specs.TickRule.{finish, tick, Answer, taken, ran, refused, answers, leaves, after_call, Event, History, history}
use Rattle.schedule.specs.Promise.{ticks_in, releases, finishes, time, life, finished_in, Released}
use Rattle.schedule.proofs.facts.Lists.{cond_neither, nil_cons, total_append, Each}
use Rattle.schedule.proofs.facts.Calls.{job_ticked, job_released, job_released_other, job_finished, job_finished_other, job_started}
use Rattle.schedule.proofs.facts.Calls.{release_either, finish_either, tick_either}
use Rattle.schedule.proofs.facts.Jobs.{aged_either}
use Rattle.schedule.proofs.promises.Following.{SafeFacts}

-- A moment of a history: the state there, and the call made.
pub record Reached (sys : System) (Safe : State → Type 0) (P : History → State → Type 0) (earlier rest : History) (e : Event) : Type 0 where
  pub state : State
  pub safe : Safe state
  pub call : Call
  pub calls : List Call
  pub is : e ≡ (call, answers sys state call)
  pub then : rest ≡ history sys (after_call sys state call) calls
  pub holds : P earlier state

module _ (sys : System) (Safe : State → Type 0) (facts : SafeFacts sys Safe) (P : History → State → Type 0)
    (keeps : (pre : History) (s : State) → Safe s → (c : Call) → P pre s → P (pre ++ ((c, answers sys s c) ∷ [])) (after_call sys s c)) where
  pub reach : (cs : List Call) (s : State) → Safe s → (pre : History) → P pre s → (earlier rest : History) (e : Event) →
      history sys s cs ≡ earlier ++ (e ∷ rest) → Reached sys Safe P (pre ++ earlier) rest e
  reach [] s safe pre p [] rest e h = absurd (nil_cons e rest h)
  reach [] s safe pre p (x ∷ xs) rest e h = absurd (nil_cons x (xs ++ (e ∷ rest)) h)
  reach (c ∷ cs) s safe pre p [] rest e h = record {
    state = s;
    safe = safe;
    call = c;
    calls = cs;
    is = cc h;
    then = cc h;
    holds = rw append-nil p;
  }
  reach (c ∷ cs) s safe pre p (x ∷ xs) rest e h =
      let a : (c, answers sys s c) ≡ x = cc h in
      let b : history sys (after_call sys s c) cs ≡ xs ++ (e ∷ rest) = cc h in
      let q : (pre ++ ((c, answers sys s c) ∷ [])) ++ xs ≡ pre ++ (x ∷ xs) = append_assoc pre ((c, answers sys s c) ∷ []) xs ∙ ap (λ y. pre ++ (y ∷ xs)) a in
      subst (λ l. Reached sys Safe P l rest e) q
      (reach cs (after_call sys s c) (facts.safe_call s safe c) (pre ++ ((c, answers sys s c) ∷ [])) (keeps pre s safe c p) xs rest e b)

-- No release and no finish of task i is taken.
abbrev pub Free : ℕ → History → Type 0
Free i h = Each (λ e. (releases i e ≡ false) × (finishes i e ≡ false)) h

pub free_unfinished : (i : ℕ) (h : History) → Free i h → finished_in i (life i h) ≡ false
free_unfinished i [] f = refl
free_unfinished i (e ∷ es) f = ap (finished_in i) (cond-false (releases i e) [] (e ∷ life i es) f.0.0) ∙ or_from _ _ f.0.1 (free_unfinished i es f.1)

pub free_life : (i : ℕ) (h : History) → Free i h → life i h ≡ h
free_life i [] f = refl
free_life i (e ∷ es) f = cond-false (releases i e) [] (e ∷ life i es) f.0.0 ∙ ap {B = History} (λ l. e ∷ l) (free_life i es f.1)

free_push : (i : ℕ) (h : History) (e : Event) → Free i h → releases i e ≡ false → finishes i e ≡ false → Free i (h ++ (e ∷ []))
free_push i [] e f r g = ((r, g), tt)
free_push i (x ∷ xs) e f r g = (f.0, free_push i xs e f.1 r g)

-- An open job of age `age` was released as many ticks ago, and no release or finish of its task was taken since.
pub record Aged (i age : ℕ) (pre : History) : Type 0 where
  pub recent : History
  pub made : Released i pre recent
  pub free : Free i recent
  pub ago : time recent ≡ age

abbrev pub Since : ℕ → Job → History → Type 0
Since i closed pre = Unit
Since i (open_at age left g gs) pre = Aged i age pre

since_hand_over : (i age : ℕ) (gs : List Segment) (pre : History) → Aged i age pre → Since i (hand_over age gs) pre
since_hand_over i age [] pre a = tt
since_hand_over i age (g ∷ gs) pre a = a

aged_push : (i age : ℕ) (pre : History) (e : Event) → releases i e ≡ false → finishes i e ≡ false → Aged i age pre → Aged i (age + ticks_in e) (pre ++ (e ∷ []))
aged_push i age pre e r f a = record {
  recent = a.recent ++ (e ∷ []);
  made = (a.made.0, ap (λ l. l ++ (e ∷ [])) a.made.1 ∙ append_assoc a.made.0 ((release i, taken) ∷ a.recent) (e ∷ []));
  free = free_push i a.recent e a.free r f;
  ago = omega (arith, total_append ticks_in a.recent (e ∷ []), a.ago);
}

since_still : (i : ℕ) (j : Job) (pre : History) (e : Event) → releases i e ≡ false → finishes i e ≡ false → ticks_in e ≡ 0 → Since i j pre → Since i j (pre ++ (e ∷ []))
since_still i closed pre e r f t a = tt
since_still i (open_at age left g gs) pre e r f t a =
    let k : age + ticks_in e ≡ age = omega arith in
    subst (λ x. Aged i x (pre ++ (e ∷ []))) k (aged_push i age pre e r f a)

-- After a tick the job is a tick older, or at a later segment, or closed.
since_tick : (i : ℕ) (b : Bool) (j : Job) (pre : History) (e : Event) → releases i e ≡ false → finishes i e ≡ false → ticks_in e ≡ 1 → Since i j pre → Since i (aged b j) (pre ++ (e ∷ []))
since_tick i b closed pre e r f t a = tt
since_tick i b (open_at age left g gs) pre e r f t a =
    let older : Aged i (age + 1) (pre ++ (e ∷ [])) = subst (λ x. Aged i (age + x) (pre ++ (e ∷ []))) t (aged_push i age pre e r f a) in
    aged_either b age left g gs (λ j. Since i j (pre ++ (e ∷ []))) (λ w. since_hand_over i (age + 1) gs (pre ++ (e ∷ [])) older) (λ n d. older)

module _ (sys : System) (Safe : State → Type 0) (facts : SafeFacts sys Safe) (pre : History) (s : State) (safe : Safe s) (i : ℕ) (i< : i < sys.tasks) (had : Since i (job s i) pre) where
  since_unmoved : (e : Event) (j : Job) → releases i e ≡ false → finishes i e ≡ false → ticks_in e ≡ 0 → j ≡ job s i → Since i j (pre ++ (e ∷ []))
  since_unmoved e j r f t q = subst (λ j. Since i j (pre ++ (e ∷ []))) (sym q) (since_still i (job s i) pre e r f t had)

  since_release : (k : ℕ) → Since i (job (after_call sys s (release k)) i) (pre ++ ((release k, answers sys s (release k)) ∷ []))
  since_release k =
      release_either sys s k P
      (λ a. since_unmoved (release k, refused 13 k) (job s i) (cond_neither (eqb k i)) refl refl refl)
      (λ a z. since_unmoved (release k, refused 14 k) (job s i) (cond_neither (eqb k i)) refl refl refl)
      (λ a b. elim (cases_eq k i) [
        | inl q ↦ subst (λ x. Since i (job (released sys s x) i) (pre ++ ((release x, taken) ∷ []))) (sym q) made
        | inr n ↦ since_unmoved (release k, taken) (job (released sys s k) i) (cond-false _ _ _ (ne_eqb k i n)) refl refl (job_released_other sys s k i (λ e. n (sym e)))
      ])
    where
      P : Answer → Type 0
      P a = Since i (job (leaves sys s (release k) a) i) (pre ++ ((release k, a) ∷ []))

      made : Since i (job (released sys s i) i) (pre ++ ((release i, taken) ∷ []))
      made = subst (λ j. Since i j (pre ++ ((release i, taken) ∷ []))) (sym (job_released sys s i (omega (arith, facts.size s safe))))
          (since_hand_over i 0 (segments sys.parts i) (pre ++ ((release i, taken) ∷ [])) (record { recent = []; made = (pre, refl); free = tt; ago = refl }))

  since_finish : (k : ℕ) → Since i (job (after_call sys s (finish k)) i) (pre ++ ((finish k, answers sys s (finish k)) ∷ []))
  since_finish k =
      finish_either sys s k P
      (λ a. since_unmoved (finish k, refused 13 k) (job s i) refl (cond_neither (eqb k i)) refl refl)
      (λ a. since_unmoved (finish k, refused 15 k) (job s i) refl (cond_neither (eqb k i)) refl refl)
      (λ a. elim (cases_eq k i) [
        | inl q ↦ subst (λ j. Since i j (pre ++ ((finish k, taken) ∷ []))) (sym (ap (λ x. job (finished s k) x) (sym q) ∙ job_finished s k)) tt
        | inr n ↦ since_unmoved (finish k, taken) (job (finished s k) i) refl (cond-false _ _ _ (ne_eqb k i n)) refl (job_finished_other s k i (λ e. n (sym e)))
      ])
    where
      P : Answer → Type 0
      P a = Since i (job (leaves sys s (finish k) a) i) (pre ++ ((finish k, a) ∷ []))

  since_ticked : (r : ℕ) → Since i (job (after_call sys s (tick r)) i) (pre ++ ((tick r, answers sys s (tick r)) ∷ []))
  since_ticked r =
      tick_either sys s r P
      (since_unmoved (tick r, refused 16 0) (job s i) refl refl refl refl)
      (since_unmoved (tick r, refused 17 sys.procs) (job s i) refl refl refl refl)
      (subst (λ j. Since i j (pre ++ ((tick r, ran (answer sys s)) ∷ []))) (sym (job_ticked sys s i))
      (since_tick i (ran_in sys s i (job s i)) (job s i) pre (tick r, ran (answer sys s)) refl refl refl had))
    where
      P : Answer → Type 0
      P a = Since i (job (leaves sys s (tick r) a) i) (pre ++ ((tick r, a) ∷ []))

  pub since_call : (c : Call) → Since i (job (after_call sys s c) i) (pre ++ ((c, answers sys s c) ∷ []))
  since_call (release k) = since_release k
  since_call (finish k) = since_finish k
  since_call (tick r) = since_ticked r

-- Nothing is open at the start.
pub since_start : (sys : System) (i : ℕ) → Since i (job (started sys) i) []
since_start sys i = subst (λ j. Since i j []) (sym (job_started sys i)) tt
