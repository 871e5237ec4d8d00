-- The lowest set bit of a ready word names the task that runs.
use Rattle.std.proofs.Common.{◌≡◌, ℕ, zero, suc, ◌<◌, ◌≤◌, Bool, true, false, cond, eqb, ltb, ◌⊎◌, List, [], ◌∷◌, get_or, sym, refl, ap, ◌∙◌, subst, inl, inr, arith}
use lib.Count.{count_trailing_zeros}
use Rattle.std.proofs.lemmas.List.{get_or_default, get_or_past}
use Rattle.std.proofs.lemmas.Bool.{cases_Bool, cases_eq, cases_lt, and_from, and_parts, or_cases, or_right, or_left, eq-eqb, ne_eqb, eqb-true, ltb-true, ltb-false, both_ways}
use Rattle.schedule.specs.Lists.{◌∈◌, below}
use Rattle.schedule.specs.Layout.{System}
use Rattle.schedule.specs.TickRule.{State, job, ready_on, rank, lowest, ready_tasks, runs_on}
use Rattle.schedule.proofs.facts.Lists.{in_here, in_there, in_none, in_cases, in_below, below_in}
use Rattle.schedule.proofs.facts.Running.{lowest_in, ready_tasks_in}
use Rattle.tasks.specs.Sets.{count_of}
use Rattle.tasks.specs.declared.order.TaskKey.{TaskKey}
use Rattle.parts.specs.Parts.{parts_of}
use Rattle.machine.specs.declared.jobs.Job.TheVariants.{Closed}
use Rattle.machine.specs.declared.jobs.JobTable.{JobTable}
use Rattle.machine.specs.declared.layout.Layout.{Layout}
use Rattle.machine.specs.Jobs.{meant}
use Rattle.machine.specs.Layouts.{ByOrder, ready_as, table_word}
use Rattle.machine.specs.Meaning.{laid_system, table_state}
use Rattle.machine.specs.Words.{some_below}
use Rattle.machine.proofs.Bits.{Lowest, trailing_lowest}
use Rattle.machine.proofs.States.{meant_job}

-- Where the test holds of some number, it holds of one that can be named; where of none, of none.
pub some_found : (n : ℕ) (t : ℕ → Bool) → some_below n t ≡ true → (i : ℕ) × (i < n) × (t i ≡ true)
some_found zero t e = absurd (cc)
some_found (suc n) t e = elim (or_cases (some_below n t) (t n) e) [
  | inl h ↦ let r = some_found n t h in (r.0, (omega (arith, r.1)), r.2)
  | inr h ↦ (n, (omega arith), h)
]

pub some_here : (n : ℕ) (t : ℕ → Bool) (i : ℕ) → i < n → t i ≡ true → some_below n t ≡ true
some_here zero t i h e = absurd (omega arith)
some_here (suc n) t i h e = elim (cases_eq i n) [
  | inl s ↦ or_right (some_below n t) (t n) (subst (λ (z : ℕ). t z ≡ true) s e)
  | inr ne ↦ or_left (some_below n t) (t n) (some_here n t i (omega arith) e)
]

pub some_none : (n : ℕ) (t : ℕ → Bool) (i : ℕ) → i < n → some_below n t ≡ false → t i ≡ false
some_none n t i h e = elim (cases_Bool (t i)) [ inl y ↦ absurd (both_ways (some_below n t) e (some_here n t i h y)) | inr f ↦ f ]

-- Of some tasks, none is of lower rank than the one of lowest rank.
lowest_pick : (sys : System) (i r m : ℕ) → r < 255 → (rank sys i ≤ m) ⊎ (rank sys r ≤ m) →
    rank sys (cond (eqb r 255) i (cond (ltb (rank sys r) (rank sys i)) r i)) ≤ m
lowest_pick sys i r m l h = rw (ne_eqb r 255 (λ e. omega arith)) (elim (cases_Bool (ltb (rank sys r) (rank sys i))) [
  | inl e ↦ rw e (elim h [ inl a ↦ omega (arith, ltb-true (rank sys r) (rank sys i) e) | inr a ↦ a ])
  | inr e ↦ rw e (elim h [ inl a ↦ a | inr a ↦ omega (arith, ltb-false (rank sys r) (rank sys i) e) ])
])

lowest_least : (sys : System) (is : List ℕ) (k : ℕ) → ((j : ℕ) → j ∈ is → j < 255) → k ∈ is → rank sys (lowest sys is) ≤ rank sys k
lowest_least sys [] k small m = absurd (in_none k m)
lowest_least sys (i ∷ []) k small m = elim (in_cases k i [] m) [ inl e ↦ rw e (omega arith) | inr n ↦ absurd (in_none k n) ]
lowest_least sys (i ∷ (j ∷ js)) k small m =
    let small' : (z : ℕ) → z ∈ (j ∷ js) → z < 255 = λ z n. small z (in_there z i (j ∷ js) n) in
    let l : lowest sys (j ∷ js) < 255 = small' (lowest sys (j ∷ js)) (lowest_in sys j js) in
    elim (in_cases k i (j ∷ js) m) [
      | inl e ↦ let e' : rank sys k ≡ rank sys i = ap (rank sys) e in lowest_pick sys i (lowest sys (j ∷ js)) (rank sys k) l (inl (omega arith))
      | inr n ↦ lowest_pick sys i (lowest sys (j ∷ js)) (rank sys k) l (inr (lowest_least sys (j ∷ js) k small' n))
    ]

over_cond : {A : Type 0} (b : Bool) (x y : A) (xs : List A) → x ∈ xs → x ∈ cond b (y ∷ xs) xs
over_cond true x y xs m = in_there x y xs m
over_cond false x y xs m = m

in_ready : (s : State) (p : ℕ) (is : List ℕ) (k : ℕ) → k ∈ is → ready_on p (job s k) ≡ true → k ∈ ready_tasks s p is
in_ready s p [] k m r = absurd (in_none k m)
in_ready s p (i ∷ is) k m r = elim (in_cases k i is m) [
  | inl e ↦ let r' : ready_on p (job s i) ≡ true = rw (← e) r in rw (r', e) (in_here i (ready_tasks s p is))
  | inr n ↦ over_cond (ready_on p (job s i)) k i (ready_tasks s p is) (in_ready s p is k n r)
]

none_ready : (s : State) (p : ℕ) (is : List ℕ) → ((k : ℕ) → k ∈ is → ready_on p (job s k) ≡ false) → ready_tasks s p is ≡ []
none_ready s p [] h = refl
none_ready s p (i ∷ is) h = rw (h i (in_here i is)) (none_ready s p is (λ k m. h k (in_there k i is m)))

-- A processor on which no task is ready runs nothing.
pub idle_runs : (sys : System) (s : State) (p : ℕ) → ((k : ℕ) → k < sys.tasks → ready_on p (job s k) ≡ false) → runs_on sys s p ≡ 255
idle_runs sys s p h = ap (lowest sys) (none_ready s p (below sys.tasks) (λ k m. h k (below_in k sys.tasks m)))

-- A ready task that has a rank of its own, lower than that of every other ready task, is the one that runs.
pub first_runs : (sys : System) (s : State) (p i : ℕ) → sys.tasks ≤ 32 → i < sys.tasks → ready_on p (job s i) ≡ true →
    ((k : ℕ) → k < sys.tasks → ready_on p (job s k) ≡ true → rank sys i ≤ rank sys k) → ((k : ℕ) → k < sys.tasks → rank sys k ≡ rank sys i → k ≡ i) →
    runs_on sys s p ≡ i
first_runs sys s p i few h r least own = go (ready_tasks s p (below sys.tasks)) refl
  where
    member : i ∈ ready_tasks s p (below sys.tasks)
    member = in_ready s p (below sys.tasks) i (in_below i sys.tasks h) r

    back : (k : ℕ) → k ∈ ready_tasks s p (below sys.tasks) → (k < sys.tasks) × (ready_on p (job s k) ≡ true)
    back k m = let b = ready_tasks_in s p (below sys.tasks) k m in (below_in k sys.tasks b.0, b.1)

    go : (is : List ℕ) → ready_tasks s p (below sys.tasks) ≡ is → runs_on sys s p ≡ i
    go [] e = absurd (in_none i (subst (λ l. i ∈ l) e member))
    go (j ∷ js) e =
        let m : runs_on sys s p ∈ ready_tasks s p (below sys.tasks) = rw e (lowest_in sys j js) in
        let b = back (runs_on sys s p) m in
        let low : rank sys (runs_on sys s p) ≤ rank sys i = lowest_least sys (ready_tasks s p (below sys.tasks)) i (λ k n. omega (arith, (back k n).0)) member in
        own (runs_on sys s p) b.0 (omega (arith, least (runs_on sys s p) b.0 b.1))

module _ (l : Layout) (table : JobTable) (before : TaskKey → TaskKey → Bool) (curve left : ℕ → ℕ → ℕ) (clock : ℕ) (ranked : ByOrder l before) (p : ℕ) where
  -- A job is ready where its record means one that is.
  pub ready_job : (i : ℕ) → i < count_of l.set → ready_on p (job (table_state l table clock left) i) ≡ ready_on p (meant (parts_of l.list) (get_or table.jobs i Closed))
  ready_job i h = ap (ready_on p) (meant_job (parts_of l.list) (count_of l.set) table.jobs i h)

  -- Where no rank is ready, nothing runs.
  pub none_runs : ((r : ℕ) → r < 32 → some_below (count_of l.set) (ready_as l table p r) ≡ false) → runs_on (laid_system l before curve) (table_state l table clock left) p ≡ 255
  none_runs none = idle_runs (laid_system l before curve) (table_state l table clock left) p (λ k h.
      let clear = some_none (count_of l.set) (ready_as l table p (get_or l.ranks k 0)) k h (none (get_or l.ranks k 0) (l.low k h)) in
      elim (cases_Bool (ready_on p (job (table_state l table clock left) k))) [
        | inl y ↦ absurd (both_ways _ clear (and_from _ _ (eq-eqb _ _ refl) (sym (ready_job k h) ∙ y)))
        | inr f ↦ f
      ])

  -- Where r is the lowest rank that is ready, the task of rank r runs.
  pub lowest_runs : (r : ℕ) → some_below (count_of l.set) (ready_as l table p r) ≡ true →
      ((q : ℕ) → q < r → some_below (count_of l.set) (ready_as l table p q) ≡ false) →
      get_or l.by_rank r 0 ≡ runs_on (laid_system l before curve) (table_state l table clock left) p
  lowest_runs r here lower =
      let n = count_of l.set in
      let found = some_found n (ready_as l table p r) here in
      let i = found.0 in
      let both = and_parts _ _ found.2 in
      let own : get_or l.ranks i 0 ≡ r = eqb-true _ _ both.0 in
      let task : get_or l.by_rank r 0 ≡ i = ap (λ (z : ℕ). get_or l.by_rank z 0) (sym own) ∙ l.apart i found.1 in
      let runs = first_runs (laid_system l before curve) (table_state l table clock left) p i l.set.few found.1 (ready_job i found.1 ∙ both.1)
      (λ k h y. elim (cases_lt (get_or l.ranks k 0) r) [
        | inl lt ↦ absurd (both_ways _ (some_none n (ready_as l table p (get_or l.ranks k 0)) k h (lower (get_or l.ranks k 0) lt)) (and_from _ _ (eq-eqb _ _ refl) (sym (ready_job k h) ∙ y)))
        | inr ge ↦ omega (arith, ranked i found.1, ranked k h, own, ge)
      ])
      (λ k h e. sym (l.apart k h) ∙ ap (λ (z : ℕ). get_or l.by_rank z 0) (ranked k h ∙ e ∙ sym (ranked i found.1)) ∙ l.apart i found.1) in
      task ∙ sym runs

-- What the lowest set bit of a ready word tells.
pub lowest_of : (l : Layout) (table : JobTable) (p r word : ℕ) → r ≡ count_trailing_zeros 32 word → word ≡ table_word l table p →
    Lowest (λ q. some_below (count_of l.set) (ready_as l table p q)) 32 r
lowest_of l table p r word e w =
    subst (Lowest (λ q. some_below (count_of l.set) (ready_as l table p q)) 32) (sym (e ∙ ap (count_trailing_zeros 32) w)) (trailing_lowest (λ q. some_below (count_of l.set) (ready_as l table p q)) 32)

-- The byte says which task processor p runs.
abbrev pub Names : Layout → JobTable → ℕ → ℕ → Type 0
Names l table p byte =
    (before : TaskKey → TaskKey → Bool) (curve left : ℕ → ℕ → ℕ) (clock : ℕ) → ByOrder l before → byte ≡ runs_on (laid_system l before curve) (table_state l table clock left) p

-- The byte for a ready word says which task its processor runs.
pub word_names : (l : Layout) (table : JobTable) (p word : ℕ) → word ≡ table_word l table p → Names l table p (get_or l.by_rank (count_trailing_zeros 32 word) 255)
word_names l table p word e before curve left clock ranked =
    let r : ℕ = count_trailing_zeros 32 word in
    let low = lowest_of l table p r word refl e in
    elim (cases_lt r 32) [
      | inl h ↦ get_or_default l.by_rank r 255 0 (omega (arith, l.all_ranked)) ∙ lowest_runs l table before curve left clock ranked p r (low.here h) low.under_it
      | inr h ↦ get_or_past l.by_rank r 255 (omega (arith, l.all_ranked)) ∙ sym (none_runs l table before curve left clock ranked p (λ q lt. low.under_it q (omega arith)))
    ]

-- What runs on a processor is ready there.
pub named_ready : (sys : System) (s : State) (p i : ℕ) → i < 255 → runs_on sys s p ≡ i → ready_on p (job s i) ≡ true
named_ready sys s p i low e = go (ready_tasks s p (below sys.tasks)) refl
  where
    go : (is : List ℕ) → ready_tasks s p (below sys.tasks) ≡ is → ready_on p (job s i) ≡ true
    go [] d = absurd (let z : i ≡ 255 = sym e ∙ ap (lowest sys) d in omega arith)
    go (j ∷ js) d =
        let m : runs_on sys s p ∈ ready_tasks s p (below sys.tasks) = rw d (lowest_in sys j js) in
        subst (λ (k : ℕ). ready_on p (job s k) ≡ true) e (ready_tasks_in s p (below sys.tasks) (runs_on sys s p) m).1
