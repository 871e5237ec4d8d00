-- What each call answers and leaves: which job changes, and which answers there are.
use Rattle.std.proofs.Common.{◌≡◌, ℕ, zero, suc, ◌+◌, ◌-◌, ◌<◌, ◌≤◌, Bool, cond, not, eqb, ltb, leb, List, [], ◌∷◌, length, get_or, set, sym, refl, ap, ◌∙◌, add-zero, add-suc, suc-add, zero-add, arith, length-set}
use Rattle.std.proofs.lemmas.Bool.{eqb-true, eqb-false, eq-eqb, ne_eqb, ltb-true, ltb-false, le-ltb, lt-leb, cond-false, cond_both, not-true, not-false}
use Rattle.schedule.specs.Layout.{System}
use Rattle.schedule.specs.TickRule.{Job, closed, State, job, all_closed, started, answer, aged, ran_in, aged_from, ticked, opened, released}
use Rattle.schedule.specs.TickRule.{finished, is_closed, release, finish, tick, Answer, taken, ran, refused, last_clock, answers}
use Rattle.schedule.proofs.facts.Lists.{getD_equal}

job_aged : (sys : System) (s : State) (js : List Job) (k i : ℕ) →
    get_or (aged_from sys s k js) i closed ≡ aged (ran_in sys s (k + i) (get_or js i closed)) (get_or js i closed)
job_aged sys s [] k i = refl
job_aged sys s (j ∷ js) k zero = rw add-zero
job_aged sys s (j ∷ js) k (suc i) = job_aged sys s js (suc k) i ∙ rw (suc-add k i, add-suc k i)

length_aged : (sys : System) (s : State) (js : List Job) (k : ℕ) → length (aged_from sys s k js) ≡ length js
length_aged sys s [] k = refl
length_aged sys s (j ∷ js) k = ap suc (length_aged sys s js (suc k))

set_at : (js : List Job) (i : ℕ) (j : Job) → i < length js → get_or (set js i j) i closed ≡ j
set_at [] i j h = absurd (omega arith)
set_at (x ∷ xs) zero j h = refl
set_at (x ∷ xs) (suc i) j h = set_at xs i j (omega arith)

set_closed : (js : List Job) (i : ℕ) → get_or (set js i closed) i closed ≡ closed
set_closed [] i = refl
set_closed (x ∷ xs) zero = refl
set_closed (x ∷ xs) (suc i) = set_closed xs i

set_other : (js : List Job) (i k : ℕ) (j : Job) → (k ≡ i → ⊥) → get_or (set js i j) k closed ≡ get_or js k closed
set_other [] i k j h = refl
set_other (x ∷ xs) zero zero j h = absurd (h refl)
set_other (x ∷ xs) zero (suc k) j h = refl
set_other (x ∷ xs) (suc i) zero j h = refl
set_other (x ∷ xs) (suc i) (suc k) j h = set_other xs i k j (λ e. h (ap suc e))

pub job_ticked : (sys : System) (s : State) (i : ℕ) → job (ticked sys s) i ≡ aged (ran_in sys s i (job s i)) (job s i)
job_ticked sys s i = rw (job_aged sys s s.jobs 0 i, zero-add i)

pub job_released : (sys : System) (s : State) (i : ℕ) → i < length s.jobs → job (released sys s i) i ≡ opened sys i
job_released sys s i h = set_at s.jobs i (opened sys i) h

pub job_released_other : (sys : System) (s : State) (i k : ℕ) → (k ≡ i → ⊥) → job (released sys s i) k ≡ job s k
job_released_other sys s i k h = set_other s.jobs i k (opened sys i) h

-- the room that a release leaves
pub room_released : (sys : System) (s : State) (i : ℕ) → (released sys s i).room i ≡ (λ L. s.room i L - 1)
room_released sys s i = ap {B = ℕ → ℕ} (λ (t : Bool) (L : ℕ). cond t (s.room i L - 1) (s.room i L)) (eq-eqb i i refl)

pub room_released_other : (sys : System) (s : State) (i k : ℕ) → (k ≡ i → ⊥) → (released sys s i).room k ≡ s.room k
room_released_other sys s i k h = ap {B = ℕ → ℕ} (λ (t : Bool) (L : ℕ). cond t (s.room k L - 1) (s.room k L)) (ne_eqb k i h)

pub job_finished : (s : State) (i : ℕ) → job (finished s i) i ≡ closed
job_finished s i = set_closed s.jobs i

pub job_finished_other : (s : State) (i k : ℕ) → (k ≡ i → ⊥) → job (finished s i) k ≡ job s k
job_finished_other s i k h = set_other s.jobs i k closed h

pub length_ticked : (sys : System) (s : State) → length (ticked sys s).jobs ≡ length s.jobs
length_ticked sys s = length_aged sys s s.jobs 0

pub length_released : (sys : System) (s : State) (i : ℕ) → length (released sys s i).jobs ≡ length s.jobs
length_released sys s i = length-set s.jobs i (opened sys i)

pub length_finished : (s : State) (i : ℕ) → length (finished s i).jobs ≡ length s.jobs
length_finished s i = length-set s.jobs i closed

-- The start: every job is closed.
closed_at : (n i : ℕ) → get_or (all_closed n) i closed ≡ closed
closed_at zero i = refl
closed_at (suc n) zero = refl
closed_at (suc n) (suc i) = closed_at n i

closed_length : (n : ℕ) → length (all_closed n) ≡ n
closed_length zero = refl
closed_length (suc n) = ap suc (closed_length n)

pub job_started : (sys : System) (i : ℕ) → job (started sys) i ≡ closed
job_started sys i = closed_at sys.tasks i

pub length_started : (sys : System) → length (started sys).jobs ≡ sys.tasks
length_started sys = closed_length sys.tasks

-- The answers of a release, of a finish and of a tick, with what each says of the state.
pub release_either : (sys : System) (s : State) (i : ℕ) (P : Answer → Type 0) →
    (sys.tasks ≤ i → P (refused 13 i)) → (i < sys.tasks → s.room i 1 ≡ 0 → P (refused 14 i)) → (i < sys.tasks → 1 ≤ s.room i 1 → P taken) →
    P (answers sys s (release i))
release_either sys s i P unknown soon made =
    cond_both (not (ltb i sys.tasks)) (refused 13 i) (cond (eqb (s.room i 1) 0) (refused 14 i) taken) P
    (λ e. unknown (ltb-false _ _ (not-true _ e)))
    (λ e. let h = ltb-true _ _ (not-false _ e) in
    cond_both (eqb (s.room i 1) 0) (refused 14 i) taken P
    (λ z. soon h (eqb-true _ _ z))
    (λ n. made h (let k = eqb-false _ _ n in omega arith)))

pub finish_either : (sys : System) (s : State) (i : ℕ) (P : Answer → Type 0) →
    (sys.tasks ≤ i → P (refused 13 i)) → (i < sys.tasks → P (refused 15 i)) → (i < sys.tasks → P taken) →
    P (answers sys s (finish i))
finish_either sys s i P unknown none made =
    cond_both (not (ltb i sys.tasks)) (refused 13 i) (cond (is_closed (job s i)) (refused 15 i) taken) P
    (λ e. unknown (ltb-false _ _ (not-true _ e)))
    (λ e. let h = ltb-true _ _ (not-false _ e) in cond_both (is_closed (job s i)) (refused 15 i) taken P (λ z. none h) (λ n. made h))

pub tick_either : (sys : System) (s : State) (size : ℕ) (P : Answer → Type 0) →
    P (refused 16 0) → P (refused 17 sys.procs) → P (ran (answer sys s)) → P (answers sys s (tick size))
tick_either sys s size P worn short took =
    cond_both (leb last_clock s.clock) (refused 16 0) (cond (ltb size sys.procs) (refused 17 sys.procs) (ran (answer sys s))) P (λ e. worn)
    (λ e. cond_both (ltb size sys.procs) (refused 17 sys.procs) (ran (answer sys s)) P (λ f. short) (λ f. took))

-- A tick with a buffer of just the size is taken while the clock is low.
pub tick_taken : (sys : System) (s : State) → s.clock < last_clock → answers sys s (tick sys.procs) ≡ ran (answer sys s)
tick_taken sys s h = cond-false (leb last_clock s.clock) _ _ (lt-leb last_clock s.clock h) ∙ cond-false (ltb sys.procs sys.procs) _ _ (le-ltb sys.procs sys.procs (omega arith))

-- Jobs are known task by task.
pub jobs_equal : (n : ℕ) (js ks : List Job) → length js ≡ n → length ks ≡ n → ((i : ℕ) → i < n → get_or js i closed ≡ get_or ks i closed) → js ≡ ks
jobs_equal n js ks e f h = getD_equal closed js ks (e ∙ sym f) (λ i l. h i (omega arith))
