-- What ready words tell: which tasks are ready, how many, and which runs.
use Rattle.std.proofs.Common.{◌≡◌, ℕ, zero, suc, ◌+◌, ◌<◌, ◌≤◌, Bool, true, false, ◌&&◌, ◌||◌, eqb, get_or, sym, refl, ap, ◌∙◌, subst, ap₂, inl, inr, arith}
use lib.Count.{count_trailing_zeros, trailing_of_zero, ones}
use Rattle.std.proofs.lemmas.Bool.{cases_Bool, cases_eq, cases_lt, and_from, and_parts, and_left, eq-eqb, ne_eqb, eqb-true, both_ways}
use Rattle.schedule.specs.Lists.{total, up_from, below, one_if}
use Rattle.schedule.specs.TickRule.{job, ready_on, rank}
use Rattle.schedule.proofs.facts.Lists.{total_same, total_plus, below_in}
use Rattle.tasks.proofs.Orderings.{total_more}
use Rattle.tasks.specs.Sets.{count_of}
use Rattle.tasks.specs.declared.order.TaskKey.{TaskKey}
use Rattle.parts.specs.Parts.{parts_of}
use Rattle.machine.specs.declared.jobs.Job.TheVariants.{Closed}
use Rattle.machine.specs.declared.jobs.JobTable.{JobTable}
use Rattle.machine.specs.declared.layout.Layout.{Layout}
use Rattle.machine.specs.Jobs.{meant}
use Rattle.machine.specs.Layouts.{ByOrder, ready_as, table_word}
use Rattle.machine.specs.Meaning.{laid_system, table_state}
use Rattle.machine.specs.Words.{bit, some_below, ready_rank, ready_tasks_on, ReadyWord}
use Rattle.machine.proofs.Bits.{word_same, word_none, word_bit, word_ones, trailing_lowest}
use Rattle.machine.proofs.Running.{some_found, some_here, none_runs, lowest_runs, ready_job}
use Rattle.machine.proofs.States.{meant_job}

some_same : (n : ℕ) (s t : ℕ → Bool) → ((i : ℕ) → i < n → s i ≡ t i) → some_below n s ≡ some_below n t
some_same zero s t h = refl
some_same (suc n) s t h = ap₂ (λ (a b : Bool). a || b) (some_same n s t (λ i l. h i (omega arith))) (h n (omega arith))

-- A number is met once in a stretch that holds it, and never in a later one.
met_never : (a : ℕ) (b : Bool) (c k : ℕ) → a < c → total (λ r. one_if (eqb a r && b)) (up_from c k) ≡ 0
met_never a b c zero h = refl
met_never a b c (suc k) h =
    let e : one_if (eqb a c && b) ≡ 0 = ap one_if (and_left _ _ (ne_eqb a c (λ z. omega arith))) in
    omega (arith, e, met_never a b (suc c) k (omega arith))

met_once : (a : ℕ) (b : Bool) (c k : ℕ) → c ≤ a → a < c + k → total (λ r. one_if (eqb a r && b)) (up_from c k) ≡ one_if b
met_once a b c zero low high = absurd (omega arith)
met_once a b c (suc k) low high = elim (cases_eq a c) [
  | inl s ↦
      let e : one_if (eqb a c && b) ≡ one_if b = ap (λ (x : Bool). one_if (x && b)) (eq-eqb a c s) in
      omega (arith, e, met_never a b (suc c) k (omega arith))
  | inr ne ↦
      let e : one_if (eqb a c && b) ≡ 0 = ap one_if (and_left _ _ (ne_eqb a c ne)) in
      omega (arith, e, met_once a b (suc c) k (omega arith) (omega arith))
]

either_one : (f x : Bool) → (x ≡ true → f ≡ false) → one_if (f || x) ≡ one_if f + one_if x
either_one true true h = absurd (both_ways true (h refl) refl)
either_one true false h = refl
either_one false x h = omega arith

-- One test more, of a number that did not pass before.
counted_more : (f : ℕ → Bool) (a k : ℕ) (b : Bool) → a < k → f a ≡ false → total (λ r. one_if (f r || (eqb a r && b))) (below k) ≡ total (λ r. one_if (f r)) (below k) + one_if b
counted_more f a k b h clear =
    total_same (λ r. one_if (f r || (eqb a r && b))) (λ r. one_if (f r) + one_if (eqb a r && b)) (below k)
    (λ r m. either_one (f r) (eqb a r && b) (λ e. subst (λ (z : ℕ). f z ≡ false) (eqb-true a r (and_parts _ _ e).0) clear))
    ∙ total_plus (λ r. one_if (f r)) (λ r. one_if (eqb a r && b)) (below k)
    ∙ ap (λ (n : ℕ). total (λ r. one_if (f r)) (below k) + n) (met_once a b 0 k (omega arith) (omega arith))

module _ (l : Layout) (table : JobTable) (p : ℕ) where
  -- The ranks of the first n tasks are not that of another task.
  clear_rank : (n : ℕ) → n < count_of l.set → some_below n (ready_as l table p (get_or l.ranks n 0)) ≡ false
  clear_rank n h = elim (cases_Bool (some_below n (ready_as l table p (get_or l.ranks n 0)))) [
    | inl y ↦
        let f = some_found n (ready_as l table p (get_or l.ranks n 0)) y in
        let same : get_or l.ranks f.0 0 ≡ get_or l.ranks n 0 = eqb-true _ _ (and_parts _ _ f.2).0 in
        let i = sym (l.apart f.0 (omega (arith, f.1))) ∙ ap (λ (z : ℕ). get_or l.by_rank z 0) same ∙ l.apart n h in
        absurd (omega (arith, f.1, i))
    | inr e ↦ e
  ]

  -- As many ranks as tasks are ready.
  ready_counted : (n : ℕ) → n ≤ count_of l.set →
      total (λ r. one_if (some_below n (ready_as l table p r))) (below 32) ≡ total (λ i. one_if (ready_on p (meant (parts_of l.list) (get_or table.jobs i Closed)))) (below n)
  ready_counted zero h = total_same (λ r. 0) (λ r. 0) (below 32) (λ r m. refl)
  ready_counted (suc n) h =
      let g : ℕ → Bool = λ i. ready_on p (meant (parts_of l.list) (get_or table.jobs i Closed)) in
      let up : n + 1 ≡ suc n = omega arith in
      counted_more (λ r. some_below n (ready_as l table p r)) (get_or l.ranks n 0) 32 (g n) (l.low n (omega arith)) (clear_rank n (omega arith))
      ∙ ap (λ (k : ℕ). k + one_if (g n)) (ready_counted n (omega arith))
      ∙ sym (total_more (λ i. one_if (g i)) n)
      ∙ ap (λ (k : ℕ). total (λ i. one_if (g i)) (below k)) up

  -- The bits of a ready word are as many as the tasks that are ready.
  pub word_counted : (before : TaskKey → TaskKey → Bool) (curve left : ℕ → ℕ → ℕ) (clock : ℕ) →
      ones (table_word l table p) ≡ ready_tasks_on (laid_system l before curve) (table_state l table clock left) p
  word_counted before curve left clock =
      let n = count_of l.set in
      let s = table_state l table clock left in
      word_ones (λ r. some_below n (ready_as l table p r)) 32 ∙ ready_counted n (omega arith)
      ∙ total_same _ _ (below n) (λ i m. ap one_if (sym (ready_job' i (below_in i n m))))
    where
      ready_job' : (i : ℕ) → i < count_of l.set → ready_on p (job (table_state l table clock left) i) ≡ ready_on p (meant (parts_of l.list) (get_or table.jobs i Closed))
      ready_job' i h = ap (ready_on p) (meant_job (parts_of l.list) (count_of l.set) table.jobs i h)

  module _ (before : TaskKey → TaskKey → Bool) (curve left : ℕ → ℕ → ℕ) (clock : ℕ) (ranked : ByOrder l before) where
    rank_same : (r : ℕ) → some_below (count_of l.set) (ready_as l table p r) ≡ ready_rank (laid_system l before curve) (table_state l table clock left) p r
    rank_same r = some_same (count_of l.set) _ _ (λ i h. ap₂ (λ (a : ℕ) (b : Bool). eqb a r && b) (ranked i h) (sym (ready_job l table before curve left clock ranked p i h)))

    task_bit : (i : ℕ) → i < count_of l.set → some_below (count_of l.set) (ready_as l table p (get_or l.ranks i 0)) ≡ ready_on p (meant (parts_of l.list) (get_or table.jobs i Closed))
    task_bit i h =
        let n = count_of l.set in
        elim (cases_Bool (ready_on p (meant (parts_of l.list) (get_or table.jobs i Closed)))) [
          | inl y ↦ some_here n (ready_as l table p (get_or l.ranks i 0)) i h (and_from _ _ (eq-eqb _ _ refl) y) ∙ sym y
          | inr e ↦ elim (cases_Bool (some_below n (ready_as l table p (get_or l.ranks i 0)))) [
            | inl y ↦
                let f = some_found n (ready_as l table p (get_or l.ranks i 0)) y in
                let same : get_or l.ranks f.0 0 ≡ get_or l.ranks i 0 = eqb-true _ _ (and_parts _ _ f.2).0 in
                let k : f.0 ≡ i = sym (l.apart f.0 f.1) ∙ ap (λ (z : ℕ). get_or l.by_rank z 0) same ∙ l.apart i h in
                absurd (both_ways _ e (subst (λ (z : ℕ). ready_on p (meant (parts_of l.list) (get_or table.jobs z Closed)) ≡ true) k (and_parts _ _ f.2).1))
            | inr z ↦ z ∙ sym e
          ]
        ]

    low_rank : (i : ℕ) → i < count_of l.set → rank (laid_system l before curve) i < 32
    low_rank i h = omega (arith, ranked i h, l.low i h)

    -- The task of a rank that is ready has that rank.
    named_rank : (r : ℕ) → some_below (count_of l.set) (ready_as l table p r) ≡ true → (get_or l.by_rank r 0 < count_of l.set) × (get_or l.ranks (get_or l.by_rank r 0) 0 ≡ r)
    named_rank r here =
        let f = some_found (count_of l.set) (ready_as l table p r) here in
        let own : get_or l.ranks f.0 0 ≡ r = eqb-true _ _ (and_parts _ _ f.2).0 in
        let task : get_or l.by_rank r 0 ≡ f.0 = ap (λ (z : ℕ). get_or l.by_rank z 0) (sym own) ∙ l.apart f.0 f.1 in
        (omega (arith, task, f.1), ap (λ (z : ℕ). get_or l.ranks z 0) task ∙ own)

    -- A word that is the table's tells what a ready word should.
    pub word_tells : (word : ℕ) → word ≡ table_word l table p → ReadyWord (laid_system l before curve) (table_state l table clock left) p word
    word_tells word e =
        let sys = laid_system l before curve in
        let s = table_state l table clock left in
        let n = count_of l.set in
        let test : ℕ → Bool = λ r. some_below n (ready_as l table p r) in
        let bits : (r : ℕ) → r < 32 → bit word r ≡ one_if (test r) = λ r h. ap (λ (w : ℕ). bit w r) e ∙ word_bit test 32 r h in
        let low = trailing_lowest test 32 in
        let r : ℕ = count_trailing_zeros 32 (table_word l table p) in
        record {
          value = e ∙ word_same test (ready_rank sys s p) 32 (λ q h. rank_same q);
          ranks = λ q h. bits q h ∙ ap one_if (rank_same q);
          tasks = λ i h. bits (rank sys i) (low_rank i h) ∙ ap (λ (q : ℕ). one_if (test q)) (sym (ranked i h)) ∙ ap one_if (task_bit i h ∙ sym (ready_job l table before curve left clock ranked p i h));
          idle = λ z.
              let all : r ≡ 32 = ap (count_trailing_zeros 32) (sym e ∙ z) ∙ trailing_of_zero 32 in
              none_runs l table before curve left clock ranked p (λ q h. low.under_it q (omega arith));
          first = λ ne. elim (cases_lt r 32) [
            | inl h ↦
                let t = named_rank r (low.here h) in
                ap (rank sys) (sym (lowest_runs l table before curve left clock ranked p r (low.here h) low.under_it)) ∙ sym (ranked (get_or l.by_rank r 0) t.0) ∙ t.1 ∙ ap (count_trailing_zeros 32) (sym e)
            | inr h ↦ absurd (ne (e ∙ word_none test 32 (λ q lt. low.under_it q (omega arith))))
          ];
        }
