-- Who runs on a processor: what it names is a ready task that no ready task goes before; and what a tick answers.
use Rattle.std.proofs.Common.{◌≡◌, ℕ, zero, suc, ◌+◌, ◌<◌, ◌≤◌, Bool, true, false, cond, ◌⊎◌, List, [], ◌∷◌, map, length, get_or, sym, refl, ap, ◌∙◌, subst, inl, inr, add-zero, add-suc, suc-add, zero-add, arith}
use Rattle.std.proofs.lemmas.Bool.{cases_Bool, cases_eq, eqb-true, ltb-true, ltb-false, cond_both, both_ways}
use Rattle.std.proofs.lemmas.Bool.Decides.{nat_tests}
use Rattle.schedule.specs.Lists.{◌∈◌, up_from, below}
use Rattle.schedule.specs.Layout.{Segment, System, LaidOut}
use Rattle.schedule.specs.TickRule.{Job, closed, open_at, State, job, ready_on, rank, lowest, ready_tasks, runs_on, answer}
use Rattle.schedule.proofs.facts.Lists.{from_T, to_T, in_here, in_there, in_none, in_cases, in_below, below_in, getD_equal}
use Rattle.schedule.proofs.facts.Ranks.{rank_from_before}

-- A job that is ready on p is open, at a segment on p that has begun and has cost left.
pub ready_parts : (p age left : ℕ) (g : Segment) (gs : List Segment) → ready_on p (open_at age left g gs) ≡ true → (g.proc ≡ p) × (g.begin ≤ age) × (1 ≤ left)
ready_parts p age left g gs e = grind (arith, nat_tests)

pub ready_from : (p age left : ℕ) (g : Segment) (gs : List Segment) → g.proc ≡ p → g.begin ≤ age → 1 ≤ left → ready_on p (open_at age left g gs) ≡ true
ready_from p age left g gs e h l = grind (arith, nat_tests)

pub ready_here : (p age left : ℕ) (g : Segment) (gs : List Segment) (j : Job) → j ≡ open_at age left g gs → ready_on p j ≡ true → (g.proc ≡ p) × (g.begin ≤ age) × (1 ≤ left)
ready_here p age left g gs j e h = ready_parts p age left g gs (subst (λ k. ready_on p k ≡ true) e h)

pub record Ready (p : ℕ) (j : Job) : Type 0 where
  pub age : ℕ
  pub left : ℕ
  pub now : Segment
  pub later : List Segment
  pub is : j ≡ open_at age left now later
  pub here : now.proc ≡ p
  pub begun : now.begin ≤ age

pub ready_open : (p : ℕ) (j : Job) → ready_on p j ≡ true → Ready p j
ready_open p closed h = absurd (to_T false h)
ready_open p (open_at age left g gs) h =
    let a = ready_parts p age left g gs h in
    record { age = age; left = left; now = g; later = gs; is = refl; here = a.0; begun = a.1 }

-- Processor p runs task i: it is ready, and none of the ready tasks goes before it.
pub record Picked (sys : System) (s : State) (p i : ℕ) : Type 0 where
  pub task : i < sys.tasks
  pub ready : ready_on p (job s i) ≡ true
  pub first : (k : ℕ) → k < sys.tasks → ready_on p (job s k) ≡ true → sys.before k i ≡ true → ⊥

-- Processor p runs nothing: no task is ready.
pub record Idle (sys : System) (s : State) (p : ℕ) : Type 0 where
  pub named : runs_on sys s p ≡ 255
  pub unready : (k : ℕ) → k < sys.tasks → ready_on p (job s k) ≡ false

-- The lowest of some tasks, with one more: of the two, the one of lower rank.
lowest_step : (sys : System) (i : ℕ) (is : List ℕ) (P : ℕ → Type 0) → (lowest sys is ≡ 255 → P i) →
    (rank sys (lowest sys is) < rank sys i → P (lowest sys is)) → (rank sys i ≤ rank sys (lowest sys is) → P i) → P (lowest sys (i ∷ is))
lowest_step sys i is P none rest first =
    cond_both _ i _ P (λ e. none (eqb-true _ _ e))
    (λ e. cond_both _ (lowest sys is) i P (λ t. rest (omega (arith, ltb-true _ _ t))) (λ t. first (omega (arith, ltb-false _ _ t))))

pub lowest_in : (sys : System) (i : ℕ) (is : List ℕ) → lowest sys (i ∷ is) ∈ (i ∷ is)
lowest_in sys i [] = in_here i []
lowest_in sys i (j ∷ js) =
    let here = in_here i (j ∷ js) in
    lowest_step sys i (j ∷ js) (λ x. x ∈ (i ∷ (j ∷ js))) (λ e. here) (λ r. in_there (lowest sys (j ∷ js)) i (j ∷ js) (lowest_in sys j js)) (λ r. here)

lowest_least : (sys : System) (is : List ℕ) (k : ℕ) → ((j : ℕ) → j ∈ is → j < 255) → k ∈ is → rank sys (lowest sys is) ≤ rank sys k
lowest_least sys [] k small m = absurd (in_none k m)
lowest_least sys (i ∷ []) k small m =
    elim (in_cases k i [] m) [ inl e ↦ rw e (omega arith) | inr n ↦ absurd (in_none k n) ]
lowest_least sys (i ∷ (j ∷ js)) k small m =
    let small' : (z : ℕ) → z ∈ (j ∷ js) → z < 255 = λ z n. small z (in_there z i (j ∷ js) n) in
    let is_task : lowest sys (j ∷ js) < 255 = small' (lowest sys (j ∷ js)) (lowest_in sys j js) in
    let either : (rank sys i ≤ rank sys k) ⊎ (rank sys (lowest sys (j ∷ js)) ≤ rank sys k) = elim (in_cases k i (j ∷ js) m) [
      | inl e ↦ inl (let e' : rank sys k ≡ rank sys i = ap (rank sys) e in omega arith)
      | inr n ↦ inr (lowest_least sys (j ∷ js) k small' n)
    ] in
    lowest_step sys i (j ∷ js) (λ x. rank sys x ≤ rank sys k) (λ e. absurd (omega arith))
    (λ r. elim either [ inl a ↦ omega arith | inr a ↦ a ])
    (λ r. elim either [ inl a ↦ a | inr a ↦ omega arith ])

cond_over : {A : Type 0} (b : Bool) (x y : A) (xs : List A) → x ∈ xs → x ∈ cond b (y ∷ xs) xs
cond_over true x y xs m = in_there x y xs m
cond_over false x y xs m = m

cond_under : {A : Type 0} (b : Bool) (x y : A) (xs : List A) → x ∈ cond b (y ∷ xs) xs → ((x ≡ y) × (b ≡ true)) ⊎ (x ∈ xs)
cond_under true x y xs m = elim (in_cases x y xs m) [ inl e ↦ inl (e, refl) | inr n ↦ inr n ]
cond_under false x y xs m = inr m

in_ready_tasks : (s : State) (p : ℕ) (is : List ℕ) (k : ℕ) → k ∈ is → ready_on p (job s k) ≡ true → k ∈ ready_tasks s p is
in_ready_tasks s p [] k m r = absurd (in_none k m)
in_ready_tasks s p (i ∷ is) k m r =
    elim (in_cases k i is m) [
      | inl e ↦ let r' : ready_on p (job s i) ≡ true = rw (← e) r in rw (r', e) (in_here i (ready_tasks s p is))
      | inr n ↦ cond_over (ready_on p (job s i)) k i (ready_tasks s p is) (in_ready_tasks s p is k n r)
    ]

pub ready_tasks_in : (s : State) (p : ℕ) (is : List ℕ) (k : ℕ) → k ∈ ready_tasks s p is → (k ∈ is) × (ready_on p (job s k) ≡ true)
ready_tasks_in s p [] k m = absurd (in_none k m)
ready_tasks_in s p (i ∷ is) k m =
    elim (cond_under (ready_on p (job s i)) k i (ready_tasks s p is) m) [
      | inl e ↦ (rw e.0 (in_here i is), rw e.0 e.1)
      | inr n ↦ let r : (k ∈ is) × (ready_on p (job s k) ≡ true) = ready_tasks_in s p is k n in (in_there k i is r.0, r.1)
    ]

pub who_runs : (sys : System) → LaidOut sys → (s : State) (p : ℕ) → Idle sys s p ⊎ Picked sys s p (runs_on sys s p)
who_runs sys lo s p = go (ready_tasks s p (below sys.tasks)) refl
  where
    member : (k : ℕ) → k < sys.tasks → ready_on p (job s k) ≡ true → k ∈ ready_tasks s p (below sys.tasks)
    member k h r = in_ready_tasks s p (below sys.tasks) k (in_below k sys.tasks h) r

    back : (k : ℕ) → k ∈ ready_tasks s p (below sys.tasks) → (k < sys.tasks) × (ready_on p (job s k) ≡ true)
    back k m = let r : (k ∈ below sys.tasks) × (ready_on p (job s k) ≡ true) = ready_tasks_in s p (below sys.tasks) k m in (below_in k sys.tasks r.0, r.1)

    go : (is : List ℕ) → ready_tasks s p (below sys.tasks) ≡ is → Idle sys s p ⊎ Picked sys s p (runs_on sys s p)
    go [] e = inl (record {
      named = ap (lowest sys) e;
      unready = λ k h. elim (cases_Bool (ready_on p (job s k))) [
        | inl r ↦ absurd (in_none k (subst (λ l. k ∈ l) e (member k h r)))
        | inr r ↦ r
      ];
    })
    go (i ∷ is) e =
        let m : runs_on sys s p ∈ ready_tasks s p (below sys.tasks) = rw e (lowest_in sys i is) in
        let b : (runs_on sys s p < sys.tasks) × (ready_on p (job s (runs_on sys s p)) ≡ true) = back (runs_on sys s p) m in
        inr (record {
          task = b.0;
          ready = b.1;
          first = λ k h r bk.
              let x : rank sys (runs_on sys s p) ≤ rank sys k =
              lowest_least sys (ready_tasks s p (below sys.tasks)) k (λ j n. omega (arith, back j n, lo.few_tasks)) (member k h r) in
              let y : rank sys k < rank sys (runs_on sys s p) = rank_from_before sys lo k (runs_on sys s p) h b.0 bk in
              omega arith;
        })

-- A task that is named was picked.
pub named_picked : (sys : System) → LaidOut sys → (s : State) (p i : ℕ) → (i ≡ 255 → ⊥) → runs_on sys s p ≡ i → Picked sys s p i
named_picked sys lo s p i n e = elim (who_runs sys lo s p) [ inl h ↦ absurd (n (sym e ∙ h.named)) | inr h ↦ subst (Picked sys s p) e h ]

-- No task of the system has the number of an idle processor.
pub task_not_255 : (sys : System) → LaidOut sys → (i : ℕ) → i < sys.tasks → i ≡ 255 → ⊥
task_not_255 sys lo i h e = omega (arith, lo.few_tasks)

-- A task of the system that is named has its job's present segment there, begun and with cost left.
pub named_here : (sys : System) → LaidOut sys → (s : State) (p i age left : ℕ) (g : Segment) (gs : List Segment) → i < sys.tasks →
    job s i ≡ open_at age left g gs → runs_on sys s p ≡ i → (g.proc ≡ p) × (g.begin ≤ age) × (1 ≤ left)
named_here sys lo s p i age left g gs h e r = ready_here p age left g gs (job s i) e (named_picked sys lo s p i (task_not_255 sys lo i h) r).ready

-- Where task i is ready, what runs is i or goes before i.
pub ready_runs : (sys : System) → LaidOut sys → (s : State) (p i : ℕ) → i < sys.tasks → ready_on p (job s i) ≡ true →
    Picked sys s p (runs_on sys s p) × ((runs_on sys s p ≡ i) ⊎ (sys.before (runs_on sys s p) i ≡ true))
ready_runs sys lo s p i h r =
    elim (who_runs sys lo s p) [
      | inl n ↦ let z : ◌≡◌ {A = Bool} true false = sym r ∙ n.unready i h in absurd (to_T false (sym z))
      | inr k ↦ (
        k,
        elim (cases_eq (runs_on sys s p) i) [
          | inl e ↦ inl e
          | inr ne ↦ elim (lo.ordered.connected (runs_on sys s p) i k.task h ne) [
            | inl t ↦ inr (from_T (sys.before (runs_on sys s p) i) t)
            | inr t ↦ absurd (k.first i h r (from_T (sys.before i (runs_on sys s p)) t))
          ]
        ],
      )
    ]

-- What is picked is named.
pub picked_named : (sys : System) → LaidOut sys → (s : State) (p i : ℕ) → Picked sys s p i → runs_on sys s p ≡ i
picked_named sys lo s p i k =
    elim (ready_runs sys lo s p i k.task k.ready).1 [
      | inl e ↦ e
      | inr b ↦ let r : Picked sys s p (runs_on sys s p) = (ready_runs sys lo s p i k.task k.ready).0 in
          absurd (k.first (runs_on sys s p) r.task r.ready b)
    ]

-- A processor on which no task is ready runs nothing.
pub idle_named : (sys : System) → LaidOut sys → (s : State) (p : ℕ) → ((k : ℕ) → k < sys.tasks → ready_on p (job s k) ≡ false) → runs_on sys s p ≡ 255
idle_named sys lo s p un = elim (who_runs sys lo s p) [
  | inl h ↦ h.named
  | inr k ↦ absurd (both_ways (ready_on p (job s (runs_on sys s p))) (un (runs_on sys s p) k.task) k.ready)
]

-- A ready task whose rank no ready task undercuts is the one that runs.
pub least_rank_named : (sys : System) → LaidOut sys → (s : State) (p i : ℕ) → i < sys.tasks → ready_on p (job s i) ≡ true →
    ((k : ℕ) → k < sys.tasks → ready_on p (job s k) ≡ true → rank sys i ≤ rank sys k) → runs_on sys s p ≡ i
least_rank_named sys lo s p i h r least = picked_named sys lo s p i (record {
  task = h;
  ready = r;
  first = λ k hk rk b. omega (arith, least k hk rk, rank_from_before sys lo k i hk h b);
})

-- The answer of a tick: what each processor runs.
answer_up : (f : ℕ → ℕ) (k n p : ℕ) → p < n → get_or (map f (up_from k n)) p 255 ≡ f (k + p)
answer_up f k zero p h = absurd (omega arith)
answer_up f k (suc n) zero h = simp add-zero
answer_up f k (suc n) (suc p) h = simp (add-suc, ← suc-add) (answer_up f (suc k) n p (omega arith))

answer_beyond : (f : ℕ → ℕ) (k n p : ℕ) → n ≤ p → get_or (map f (up_from k n)) p 255 ≡ 255
answer_beyond f k zero p h = refl
answer_beyond f k (suc n) zero h = absurd (omega arith)
answer_beyond f k (suc n) (suc p) h = answer_beyond f (suc k) n p (omega arith)

pub answer_at : (sys : System) (s : State) (p : ℕ) → p < sys.procs → get_or (answer sys s) p 255 ≡ runs_on sys s p
answer_at sys s p h = answer_up (runs_on sys s) 0 sys.procs p h ∙ ap (runs_on sys s) (zero-add p)

pub answer_past : (sys : System) (s : State) (p : ℕ) → sys.procs ≤ p → get_or (answer sys s) p 255 ≡ 255
answer_past sys s p h = answer_beyond (runs_on sys s) 0 sys.procs p h

pub length_answer : (sys : System) (s : State) → length (answer sys s) ≡ sys.procs
length_answer sys s = answer_length (runs_on sys s) 0 sys.procs
  where
    answer_length : (f : ℕ → ℕ) (k n : ℕ) → length (map f (up_from k n)) ≡ n
    answer_length f k zero = refl
    answer_length f k (suc n) = ap suc (answer_length f (suc k) n)

-- Bytes that say of each processor what it runs are the answer.
pub answer_equal : (sys : System) (s : State) (bs : List ℕ) → length bs ≡ sys.procs → ((p : ℕ) → p < sys.procs → get_or bs p 255 ≡ runs_on sys s p) → bs ≡ answer sys s
answer_equal sys s bs e h =
    getD_equal 255 bs (answer sys s) (e ∙ sym (length_answer sys s)) (λ p l. let k : p < sys.procs = omega arith in h p k ∙ sym (answer_at sys s p k))
