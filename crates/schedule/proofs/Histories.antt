-- Histories put together and cut, and what no call can tell apart.
use Rattle.std.proofs.Common.{◌≡◌, ℕ, suc, ◌+◌, ◌-◌, ◌*◌, ◌<◌, ◌≤◌, min, cond, not, ◌&&◌, T, eqb, ltb, leb, List, [], ◌∷◌, ◌++◌, map, length, get_or, set, sym, refl, ap, ◌∙◌, subst, inl, inr, arith}
use mathlib.Core.Path.{fun_ext}
use Rattle.std.proofs.lemmas.Bool.{cases_Bool, ltb-true}
use Rattle.schedule.specs.declared.Part.{Part}
use Rattle.schedule.specs.Lists.{◌∈◌, total, below, one_if}
use Rattle.schedule.specs.Orders.{Ordered}
use Rattle.schedule.specs.Curves.{Curve}
use Rattle.schedule.specs.Layout.{segments, span_of, work_of, System, interferes, demand, InTime, LaidOut}
use Rattle.schedule.specs.TickRule.{Job, closed, open_at, State, job, all_closed, started, ready_on, rank, lowest, ready_tasks, runs_on, answer}
use Rattle.schedule.specs.TickRule.{hand_over, aged, ran_in, aged_from, opened, is_closed, Call, release, finish, tick, Answer, taken, ran}
use Rattle.schedule.specs.TickRule.{refused, last_clock, answers, leaves, after_call, Event, History, history, state_after}
use Rattle.schedule.specs.Sameness.{Same, Alike}
use Rattle.schedule.proofs.facts.Lists.{in_here, in_there, total_same, below_in}
use Rattle.schedule.proofs.facts.Running.{lowest_in, ready_tasks_in}

-- Calls made in two stretches.
pub history_append : (sys : System) (s : State) (cs ds : List Call) → history sys s (cs ++ ds) ≡ history sys s cs ++ history sys (state_after sys s cs) ds
history_append sys s [] ds = refl
history_append sys s (c ∷ cs) ds = ap {B = History} (λ l. (c, answers sys s c) ∷ l) (history_append sys (after_call sys s c) cs ds)

pub state_append : (sys : System) (s : State) (cs ds : List Call) → state_after sys s (cs ++ ds) ≡ state_after sys (state_after sys s cs) ds
state_append sys s [] ds = refl
state_append sys s (c ∷ cs) ds = state_append sys (after_call sys s c) cs ds

-- One call more.
pub history_snoc : (sys : System) (s : State) (cs : List Call) (c : Call) →
    history sys s (cs ++ (c ∷ [])) ≡ history sys s cs ++ ((c, answers sys (state_after sys s cs) c) ∷ [])
history_snoc sys s cs c = history_append sys s cs (c ∷ [])

pub state_snoc : (sys : System) (s : State) (cs : List Call) (c : Call) → state_after sys s (cs ++ (c ∷ [])) ≡ after_call sys (state_after sys s cs) c
state_snoc sys s cs c = state_append sys s cs (c ∷ [])

-- A beginning of a history is the history of a beginning of its calls.
pub history_beginning : (sys : System) (s : State) (cs : List Call) (front back : History) → history sys s cs ≡ front ++ back →
    (ds : List Call) × (es : List Call) × (cs ≡ ds ++ es) × (history sys s ds ≡ front)
history_beginning sys s cs [] back h = ([], cs, refl, refl)
history_beginning sys s [] (x ∷ front) back h = absurd (let z : ◌≡◌ {A = ℕ} 0 1 = cc h in omega arith)
history_beginning sys s (c ∷ cs) (x ∷ front) back h =
    let a : (c, answers sys s c) ≡ x = cc h in
    let b : history sys (after_call sys s c) cs ≡ front ++ back = cc h in
    let r = history_beginning sys (after_call sys s c) cs front back b in
    (c ∷ r.0, r.1, ap {B = List Call} (λ l. c ∷ l) r.2, ap {B = History} (λ (e : Event). e ∷ history sys (after_call sys s c) r.0) a ∙ ap {B = History} (λ l. x ∷ l) r.3)

-- What holds of every history from a state holds of each beginning of one.
pub each_beginning : (sys : System) (s : State) (P : History → Type 0) → ((cs : List Call) → P (history sys s cs)) →
    (cs : List Call) (front back : History) → history sys s cs ≡ front ++ back → P front
each_beginning sys s P all cs front back h = let r = history_beginning sys s cs front back h in subst P r.3 (all r.0)

-- What is ready depends on the jobs alone.
ready_tasks_same : (s t : State) → s.jobs ≡ t.jobs → (p : ℕ) (is : List ℕ) → ready_tasks s p is ≡ ready_tasks t p is
ready_tasks_same s t e p [] = refl
ready_tasks_same s t e p (i ∷ is) =
    let r : ready_on p (job s i) ≡ ready_on p (job t i) = ap (λ js. ready_on p (get_or js i closed)) e in
    let k = ready_tasks_same s t e p is in
    ap {B = List ℕ} (λ b. cond b (i ∷ ready_tasks s p is) (ready_tasks s p is)) r ∙ ap {B = List ℕ} (λ l. cond (ready_on p (job t i)) (i ∷ l) l) k

-- Systems that are alike, in states that are the same.
module _ (a b : System) (al : Alike a b) where
  rank_alike : (i : ℕ) → i < a.tasks → rank a i ≡ rank b i
  rank_alike i h =
      total_same (λ j. one_if (a.before j i)) (λ j. one_if (b.before j i)) (below a.tasks) (λ j m. ap one_if (al.before j i (below_in j a.tasks m) h))
      ∙ ap (λ n. total (λ j. one_if (b.before j i)) (below n)) al.tasks

  lowest_alike : (is : List ℕ) → ((j : ℕ) → j ∈ is → j < a.tasks) → lowest a is ≡ lowest b is
  lowest_alike [] small = refl
  lowest_alike (i ∷ []) small = refl
  lowest_alike (i ∷ (j ∷ js)) small =
      let small' : (k : ℕ) → k ∈ (j ∷ js) → k < a.tasks = λ k m. small k (in_there k i (j ∷ js) m) in
      let r = lowest a (j ∷ js) in
      let re : rank a r ≡ rank b r = rank_alike r (small' r (lowest_in a j js)) in
      let ie : rank a i ≡ rank b i = rank_alike i (small i (in_here i (j ∷ js))) in
      ap (λ x. cond (eqb r 255) i (cond (ltb x (rank a i)) r i)) re
      ∙ ap (λ x. cond (eqb r 255) i (cond (ltb (rank b r) x) r i)) ie
      ∙ ap (λ x. cond (eqb x 255) i (cond (ltb (rank b x) (rank b i)) x i)) (lowest_alike (j ∷ js) small')

  module _ (s t : State) (e : s.jobs ≡ t.jobs) where
    runs_on_alike : (p : ℕ) → runs_on a s p ≡ runs_on b t p
    runs_on_alike p =
        lowest_alike (ready_tasks s p (below a.tasks)) (λ j m. below_in j a.tasks (ready_tasks_in s p (below a.tasks) j m).0)
        ∙ ap (lowest b) (ready_tasks_same s t e p (below a.tasks))
        ∙ ap (λ n. lowest b (ready_tasks t p (below n))) al.tasks

    answer_alike : answer a s ≡ answer b t
    answer_alike = ap {B = List ℕ} (λ f. map f (below a.procs)) (fun_ext runs_on_alike) ∙ ap {B = List ℕ} (λ m. map (runs_on b t) (below m)) al.procs

    ran_in_alike : (i : ℕ) (j : Job) → ran_in a s i j ≡ ran_in b t i j
    ran_in_alike i closed = refl
    ran_in_alike i (open_at age left now later) = ap (λ x. eqb x i) (runs_on_alike now.proc)

    aged_from_alike : (k : ℕ) (js : List Job) → aged_from a s k js ≡ aged_from b t k js
    aged_from_alike k [] = refl
    aged_from_alike k (j ∷ js) =
        ap {B = List Job} (λ r. aged r j ∷ aged_from a s (suc k) js) (ran_in_alike k j) ∙ ap {B = List Job} (λ l. aged (ran_in b t k j) j ∷ l) (aged_from_alike (suc k) js)

  opened_alike : (i : ℕ) → opened a i ≡ opened b i
  opened_alike i = ap (λ ps. hand_over 0 (segments ps i)) al.parts

  module _ (s t : State) (sm : Same a s t) where
    -- they answer every call alike
    pub alike_answers : (c : Call) → answers a s c ≡ answers b t c
    alike_answers (release i) =
        let P : ℕ → ℕ → Answer = λ n r. cond (not (ltb i n)) (refused 13 i) (cond (eqb r 0) (refused 14 i) taken) in
        let here : P a.tasks (s.room i 1) ≡ P a.tasks (t.room i 1) = elim (cases_Bool (ltb i a.tasks)) [
          | inl e ↦ ap (P a.tasks) (sm.room i 1 (ltb-true i a.tasks e) (omega arith))
          | inr e ↦ rw e refl
        ] in
        here ∙ ap (λ n. P n (t.room i 1)) al.tasks
    alike_answers (finish i) =
        let P : ℕ → List Job → Answer = λ n js. cond (not (ltb i n)) (refused 13 i) (cond (is_closed (get_or js i closed)) (refused 15 i) taken) in
        ap (P a.tasks) sm.jobs ∙ ap (λ n. P n t.jobs) al.tasks
    alike_answers (tick size) =
        let P : ℕ → ℕ → List ℕ → Answer = λ k m bs. cond (leb last_clock k) (refused 16 0) (cond (ltb size m) (refused 17 m) (ran bs)) in
        ap (λ k. P k a.procs (answer a s)) sm.clock ∙ ap (λ m. P t.clock m (answer a s)) al.procs ∙ ap (P t.clock b.procs) (answer_alike s t sm.jobs)

    leaves_alike : (c : Call) (an : Answer) → Same a (leaves a s c an) (leaves b t c an)
    leaves_alike (release i) taken = record {
      clock = sm.clock;
      room = λ k L h o. ap (λ r. cond (eqb k i) (r - 1) r) (sm.room k L h o);
      jobs = ap (λ js. set js i (opened a i)) sm.jobs ∙ ap (set t.jobs i) (opened_alike i);
    }
    leaves_alike (release i) (ran bs) = sm
    leaves_alike (release i) (refused k at) = sm
    leaves_alike (finish i) taken = record { clock = sm.clock; room = sm.room; jobs = ap (λ js. set js i closed) sm.jobs }
    leaves_alike (finish i) (ran bs) = sm
    leaves_alike (finish i) (refused k at) = sm
    leaves_alike (tick size) taken = sm
    leaves_alike (tick size) (ran bs) = record {
      clock = ap (λ k. k + 1) sm.clock;
      room = λ i L h o. ap (λ r. min r (a.curve i L)) (sm.room i (L + 1) h (omega arith)) ∙ ap (min (t.room i (L + 1))) (al.curve i L h);
      jobs = aged_from_alike s t sm.jobs 0 s.jobs ∙ ap (aged_from b t 0) sm.jobs;
    }
    leaves_alike (tick size) (refused k at) = sm

    -- and are the same after it
    pub alike_after : (c : Call) → Same a (after_call a s c) (after_call b t c)
    alike_after c = subst (λ an. Same a (after_call a s c) (leaves b t c an)) (alike_answers c) (leaves_alike c (answers a s c))

  -- So they have the same history, and are the same after it.
  pub alike_history : (cs : List Call) (s t : State) → Same a s t → history a s cs ≡ history b t cs
  alike_history [] s t sm = refl
  alike_history (c ∷ cs) s t sm =
      ap {B = History} (λ an. (c, an) ∷ history a (after_call a s c) cs) (alike_answers s t sm c)
      ∙ ap {B = History} (λ h. (c, answers b t c) ∷ h) (alike_history cs (after_call a s c) (after_call b t c) (alike_after s t sm c))

  pub alike_states : (cs : List Call) (s t : State) → Same a s t → Same a (state_after a s cs) (state_after b t cs)
  alike_states [] s t sm = sm
  alike_states (c ∷ cs) s t sm = alike_states cs (after_call a s c) (after_call b t c) (alike_after s t sm c)

  pub alike_started : Same a (started a) (started b)
  alike_started = record { clock = refl; room = λ i L h o. al.curve i L h; jobs = ap all_closed al.tasks }

  -- A state counts as the same for both.
  pub alike_same : (s t : State) → Same a s t → Same b s t
  alike_same s t sm = record { clock = sm.clock; room = λ i L h o. sm.room i L (subst (λ n. i < n) (sym al.tasks) h) o; jobs = sm.jobs }

  task_of : (i : ℕ) → i < b.tasks → i < a.tasks
  task_of i h = subst (λ n. i < n) (sym al.tasks) h

  part_of : (q : Part) → q ∈ b.parts → q ∈ a.parts
  part_of q m = subst (λ ps. q ∈ ps) (sym al.parts) m

  before_to : (x y : ℕ) → x < b.tasks → y < b.tasks → T (a.before x y) → T (b.before x y)
  before_to x y hx hy t = subst T (al.before x y (task_of x hx) (task_of y hy)) t

  before_fro : (x y : ℕ) → x < b.tasks → y < b.tasks → T (b.before x y) → T (a.before x y)
  before_fro x y hx hy t = subst T (sym (al.before x y (task_of x hx) (task_of y hy))) t

  ordered_alike : Ordered a.tasks a.before → Ordered b.tasks b.before
  ordered_alike o = record {
    irreflexive = λ x hx t. o.irreflexive x (task_of x hx) (before_fro x x hx hx t);
    connected = λ x y hx hy ne. elim (o.connected x y (task_of x hx) (task_of y hy) ne) [
      | inl t ↦ inl (before_to x y hx hy t)
      | inr t ↦ inr (before_to y x hy hx t)
    ];
    asymmetric = λ x y hx hy t u. o.asymmetric x y (task_of x hx) (task_of y hy) (before_fro x y hx hy t) (before_fro y x hy hx u);
    transitive = λ x y z hx hy hz t u.
        before_to x z hx hz (o.transitive x y z (task_of x hx) (task_of y hy) (task_of z hz) (before_fro x y hx hy t) (before_fro y z hy hz u));
  }

  -- What the checks establish of one holds of the other.
  pub alike_laid_out : LaidOut a → LaidOut b
  alike_laid_out lo =
      let costs : (i : ℕ) → i < b.tasks → a.costs i ≡ b.costs i = λ i h. al.costs i (task_of i h) in
      record {
        few_tasks = subst (λ n. n ≤ 32) al.tasks lo.few_tasks;
        few_parts = subst (λ ps. length ps ≤ 64) al.parts lo.few_parts;
        ordered = ordered_alike lo.ordered;
        curves = λ i h. subst Curve (fun_ext (λ L. al.curve i L (task_of i h))) (lo.curves i (task_of i h));
        known = λ p m. let k = lo.known p (part_of p m) in (subst (λ n. p.task < n) al.tasks k.0, subst (λ n. p.processor < n) al.procs k.1);
        scaled = λ p m. lo.scaled p (part_of p m);
        apart = λ xs ys zs p q e. lo.apart xs ys zs p q (al.parts ∙ e);
        working = λ i h. subst (λ c. 1 ≤ c) (costs i h) (lo.working i (task_of i h));
        summed = λ i h. ap (λ ps. work_of ps i) (sym al.parts) ∙ lo.summed i (task_of i h) ∙ costs i h;
        exclusive = λ i h. subst (λ c. c ≤ 1) (ap (λ ps. a.curve i (span_of ps i)) al.parts ∙ al.curve i (span_of b.parts i) (task_of i h)) (lo.exclusive i (task_of i h));
      }

  pub alike_demand : LaidOut a → (q : Part) → q ∈ a.parts → (t : ℕ) → demand a q t ≡ demand b q t
  alike_demand lo q m t =
      let each : (p : Part) → p ∈ a.parts → cond (interferes a q p) (a.curve p.task t * p.cost) 0 ≡ cond (interferes b q p) (b.curve p.task t * p.cost) 0 = λ p n.
      let k = (lo.known p n).0 in
      ap (λ x. cond (eqb p.processor q.processor && x) (a.curve p.task t * p.cost) 0) (al.before p.task q.task k (lo.known q m).0)
      ∙ ap (λ x. cond (interferes b q p) (x * p.cost) 0) (al.curve p.task t k) in
      let sums = total_same (λ p. cond (interferes a q p) (a.curve p.task t * p.cost) 0) (λ p. cond (interferes b q p) (b.curve p.task t * p.cost) 0) a.parts each in
      ap (λ n. q.cost + n) (sums ∙ ap (λ ps. total (λ p. cond (interferes b q p) (b.curve p.task t * p.cost) 0) ps) al.parts)

  pub alike_in_time : LaidOut a → InTime a → InTime b
  alike_in_time lo it q m =
      let r = it q (part_of q m) in
      (r.0, (r.1.0, r.1.1, omega (arith, r.1.2, alike_demand lo q (part_of q m) r.0)))

-- Sameness and likeness are equivalences.
pub same_refl : (sys : System) (s : State) → Same sys s s
same_refl sys s = record { clock = refl; room = λ i L h o. refl; jobs = refl }

pub same_sym : (sys : System) (s t : State) → Same sys s t → Same sys t s
same_sym sys s t sm = record { clock = sym sm.clock; room = λ i L h o. sym (sm.room i L h o); jobs = sym sm.jobs }

pub same_trans : (sys : System) (s t u : State) → Same sys s t → Same sys t u → Same sys s u
same_trans sys s t u x y = record { clock = x.clock ∙ y.clock; room = λ i L h o. x.room i L h o ∙ y.room i L h o; jobs = x.jobs ∙ y.jobs }

pub alike_refl : (a : System) → Alike a a
alike_refl a = record { tasks = refl; procs = refl; parts = refl; costs = λ i h. refl; before = λ i k h l. refl; curve = λ i L h. refl }

pub alike_sym : (a b : System) → Alike a b → Alike b a
alike_sym a b al =
    let lower : (i : ℕ) → i < b.tasks → i < a.tasks = λ i h. subst (λ n. i < n) (sym al.tasks) h in
    record {
      tasks = sym al.tasks;
      procs = sym al.procs;
      parts = sym al.parts;
      costs = λ i h. sym (al.costs i (lower i h));
      before = λ i k h l. sym (al.before i k (lower i h) (lower k l));
      curve = λ i L h. sym (al.curve i L (lower i h));
    }

pub alike_trans : (a b c : System) → Alike a b → Alike b c → Alike a c
alike_trans a b c x y =
    let raise : (i : ℕ) → i < a.tasks → i < b.tasks = λ i h. subst (λ n. i < n) x.tasks h in
    record {
      tasks = x.tasks ∙ y.tasks;
      procs = x.procs ∙ y.procs;
      parts = x.parts ∙ y.parts;
      costs = λ i h. x.costs i h ∙ y.costs i (raise i h);
      before = λ i k h l. x.before i k h l ∙ y.before i k (raise i h) (raise k l);
      curve = λ i L h. x.curve i L h ∙ y.curve i L (raise i h);
    }

-- States that are the same give the same answers, the same states and the same histories.
pub same_answers : (sys : System) (s t : State) → Same sys s t → (c : Call) → answers sys s c ≡ answers sys t c
same_answers sys s t sm c = alike_answers sys sys (alike_refl sys) s t sm c

pub same_after : (sys : System) (s t : State) → Same sys s t → (c : Call) → Same sys (after_call sys s c) (after_call sys t c)
same_after sys s t sm c = alike_after sys sys (alike_refl sys) s t sm c

pub same_history : (sys : System) (s t : State) → Same sys s t → (cs : List Call) → history sys s cs ≡ history sys t cs
same_history sys s t sm cs = alike_history sys sys (alike_refl sys) cs s t sm

pub same_states : (sys : System) (s t : State) → Same sys s t → (cs : List Call) → Same sys (state_after sys s cs) (state_after sys t cs)
same_states sys s t sm cs = alike_states sys sys (alike_refl sys) cs s t sm
