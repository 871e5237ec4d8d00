-- The windows of one task never add up to more than 800,000: it has at most one part on each of at most 8 processors.
use Rattle.std.proofs.Common.{◌≡◌, ℕ, zero, suc, ◌+◌, ◌<◌, ◌≤◌, cond, ◌&&◌, eqb, List, [], ◌∷◌, ◌++◌, length, sym, refl, ap, ◌∙◌, subst, inl, inr, arith}
use Rattle.std.proofs.lemmas.Bool.{and_parts, and_from, eqb-true, eq-eqb, cases_Bool, cond-true, cond-false}
use Rattle.schedule.specs.declared.Part.{Part}
use Rattle.schedule.specs.Lists.{◌∈◌, total, below}
use Rattle.schedule.specs.Layout.{span_of}
use Rattle.schedule.proofs.facts.Lists.{in_here, in_there, in_below, total_le, total_none, total_plus, total_at}
use Rattle.tasks.specs.Sets.{count_of}
use Rattle.tasks.specs.declared.set.TaskSet.{TaskSet}
use Rattle.plan.specs.Checks.{part_at}
use Rattle.plan.proofs.Passing.{Passed}

-- No task has two parts on one processor.
abbrev pub Apart : List Part → Type 0
Apart ps = (xs ys zs : List Part) (p q : Part) → ps ≡ xs ++ (p ∷ (ys ++ (q ∷ zs))) → p.task ≡ q.task → p.processor ≡ q.processor → ⊥

-- The part after a front of the list stands at the front's length.
pub at_front : (xs zs : List Part) (p : Part) → part_at (xs ++ (p ∷ zs)) (length xs) ≡ p
at_front [] zs p = refl
at_front (x ∷ xs) zs p = at_front xs zs p

length_join : (xs zs : List Part) → length (xs ++ zs) ≡ length xs + length zs
length_join [] zs = omega arith
length_join (x ∷ xs) zs = omega (arith, length_join xs zs)

-- A part of the list stands at some place.
pub placed : (ps : List Part) (p : Part) → p ∈ ps → (k : ℕ) × (k < length ps) × (part_at ps k ≡ p)
placed ps p m =
    let e = ap length m.2 in
    (length m.0, omega (arith, e, length_join m.0 (p ∷ m.1)), subst (λ (l : List Part). part_at l (length m.0) ≡ p) (sym m.2) (at_front m.0 m.1 p))

-- And what stands at a place is a part of the list.
pub at_place : (ps : List Part) (k : ℕ) → k < length ps → part_at ps k ∈ ps
at_place [] k h = absurd (omega arith)
at_place (p ∷ ps) zero h = in_here p ps
at_place (p ∷ ps) (suc k) h = in_there (part_at ps k) p ps (at_place ps k (omega arith))

module _ (set : TaskSet) (m : ℕ) (ps : List Part) (h : Passed set m ps) where
  pub known_in : (p : Part) → p ∈ ps → (p.task < count_of set) × (p.processor < m)
  known_in p mem =
      let w = placed ps p mem in
      subst (λ (q : Part). (q.task < count_of set) × (q.processor < m)) w.2 (h.known w.0 w.1)

  pub scaled_in : (p : Part) → p ∈ ps → (1 ≤ p.cost) × (p.cost ≤ 100000) × (1 ≤ p.window) × (p.window ≤ 100000)
  scaled_in p mem =
      let w = placed ps p mem in
      subst (λ (q : Part). (1 ≤ q.cost) × (q.cost ≤ 100000) × (1 ≤ q.window) × (q.window ≤ 100000)) w.2 (h.scaled w.0 w.1)

  pub apart_in : Apart ps
  apart_in xs ys zs p q e t s =
      let rest = ys ++ (q ∷ zs) in
      let first : part_at ps (length xs) ≡ p = subst (λ (l : List Part). part_at l (length xs) ≡ p) (sym e) (at_front xs rest p) in
      let regrouped : xs ++ (p ∷ rest) ≡ (xs ++ (p ∷ ys)) ++ (q ∷ zs) = regroup xs ys zs p q in
      let k = length (xs ++ (p ∷ ys)) in
      let second : part_at ps k ≡ q = subst (λ (l : List Part). part_at l k ≡ q) (sym (e ∙ regrouped)) (at_front (xs ++ (p ∷ ys)) zs q) in
      let long = ap length (e ∙ regrouped) ∙ length_join (xs ++ (p ∷ ys)) (q ∷ zs) in
      h.apart (length xs) k (omega (arith, length_join xs (p ∷ ys))) (omega (arith, long))
      (ap (λ (x : Part). x.task) first ∙ t ∙ sym (ap (λ (x : Part). x.task) second))
      (ap (λ (x : Part). x.processor) first ∙ s ∙ sym (ap (λ (x : Part). x.processor) second))
    where
      regroup : (xs ys zs : List Part) (p q : Part) → xs ++ (p ∷ (ys ++ (q ∷ zs))) ≡ (xs ++ (p ∷ ys)) ++ (q ∷ zs)
      regroup [] ys zs p q = refl
      regroup (x ∷ xs) ys zs p q = ap (λ (l : List Part). x ∷ l) (regroup xs ys zs p q)

-- The window of a part of task i on processor q, or 0.
abbrev window_on : ℕ → ℕ → Part → ℕ
window_on i q p = cond (eqb p.task i && eqb p.processor q) p.window 0

-- Sums may be taken in either order.
swap : (g : Part → ℕ → ℕ) (ps : List Part) (qs : List ℕ) → total (λ p. total (g p) qs) ps ≡ total (λ q. total (λ p. g p q) ps) qs
swap g ps [] = total_none (λ (p : Part). 0) ps (λ p m. refl)
swap g ps (q ∷ qs) = omega (arith, total_plus (λ p. g p q) (λ p. total (g p) qs) ps, swap g ps qs)

-- A task has at most one part on a processor.
one_window : (i q : ℕ) (ps : List Part) → ((p : Part) → p ∈ ps → p.window ≤ 100000) → Apart ps → total (window_on i q) ps ≤ 100000
one_window i q [] small apart = omega arith
one_window i q (p ∷ ps) small apart = elim (cases_Bool (eqb p.task i && eqb p.processor q)) [
  | inl e ↦
      let mine = and_parts _ _ e in
      let none = total_none (window_on i q) ps (λ r mem. elim (cases_Bool (eqb r.task i && eqb r.processor q)) [
        | inl f ↦ let its = and_parts _ _ f in absurd (apart [] mem.0 mem.1 p r (ap (λ (l : List Part). p ∷ l) mem.2)
            (eqb-true _ _ mine.0 ∙ sym (eqb-true _ _ its.0)) (eqb-true _ _ mine.1 ∙ sym (eqb-true _ _ its.1)))
        | inr f ↦ cond-false _ _ _ f
      ]) in
      omega (arith, none, cond-true (eqb p.task i && eqb p.processor q) p.window 0 e, small p (in_here p ps))
  | inr e ↦
      omega (
        arith,
        cond-false (eqb p.task i && eqb p.processor q) p.window 0 e,
        one_window i q ps (λ r mem. small r (in_there r p ps mem)) (λ xs ys zs a b f. apart (p ∷ xs) ys zs a b (ap (λ (l : List Part). p ∷ l) f)),
      )
]

-- A part's window stands under its own processor.
under_own : (i : ℕ) (p : Part) → p.processor < 8 → cond (eqb p.task i) p.window 0 ≤ total (λ q. window_on i q p) (below 8)
under_own i p h =
    let mine = total_at (λ q. window_on i q p) (below 8) p.processor (in_below p.processor 8 h) in
    elim (cases_Bool (eqb p.task i)) [
      | inl e ↦ omega (arith, mine, cond-true (eqb p.task i && eqb p.processor p.processor) p.window 0 (and_from _ _ e (eq-eqb _ _ refl)), cond-true (eqb p.task i) p.window 0 e)
      | inr e ↦ omega (arith, cond-false (eqb p.task i) p.window 0 e)
    ]

pub span_bound : (set : TaskSet) (m : ℕ) (ps : List Part) → Passed set m ps → (i : ℕ) → span_of ps i ≤ 800000
span_bound set m ps h i =
    let each = total_le (λ p. cond (eqb p.task i) p.window 0) (λ p. total (λ q. window_on i q p) (below 8)) ps
    (λ p mem. under_own i p (omega (arith, (known_in set m ps h p mem).1, h.few_procs))) in
    let swapped = swap (λ p q. window_on i q p) ps (below 8) in
    let small : (q : ℕ) → total (window_on i q) ps ≤ 100000 = λ q. one_window i q ps (λ p mem. (scaled_in set m ps h p mem).3) (apart_in set m ps h) in
    omega (arith, each, swapped, small 0, small 1, small 2, small 3, small 4, small 5, small 6, small 7)
