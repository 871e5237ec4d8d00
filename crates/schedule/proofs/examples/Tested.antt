-- A system is laid out where a test that can be computed says so, and its curves are curves.
use Rattle.std.proofs.Common.{◌≡◌, ℕ, zero, suc, ◌<◌, ◌≤◌, Bool, true, false, not, ◌&&◌, ◌||◌, eqb, ltb, leb, List, [], ◌∷◌, ◌++◌, length, sym, refl, subst, inl, inr, arith}
use Rattle.std.proofs.lemmas.Bool.{cases_eq, eqb-true, eq-eqb, ltb-true, leb-true, and_parts, and_from, or_cases, both_ways, not-true}
use Rattle.schedule.specs.declared.Part.{Part}
use Rattle.schedule.specs.Lists.{◌∈◌}
use Rattle.schedule.specs.Orders.{Ordered}
use Rattle.schedule.specs.Curves.{Curve}
use Rattle.schedule.specs.Layout.{span_of, work_of, System, LaidOut}
use Rattle.schedule.proofs.facts.Lists.{from_T, to_T, in_none, in_cases}

-- The test f holds below n; of every element; and of no two elements of a list.
abbrev all_below : ℕ → (ℕ → Bool) → Bool
all_below zero f = true
all_below (suc n) f = f n && all_below n f

abbrev all_of : {A : Type 0} → (A → Bool) → List A → Bool
all_of f [] = true
all_of f (x ∷ xs) = f x && all_of f xs

abbrev no_two : {A : Type 0} → (A → A → Bool) → List A → Bool
no_two f [] = true
no_two f (x ∷ xs) = all_of (λ y. not (f x y)) xs && no_two f xs

below_at : (n : ℕ) (f : ℕ → Bool) → all_below n f ≡ true → (i : ℕ) → i < n → f i ≡ true
below_at zero f t i h = absurd (omega arith)
below_at (suc n) f t i h =
    let p = and_parts (f n) (all_below n f) t in
    elim (cases_eq i n) [ inl e ↦ subst (λ k. f k ≡ true) (sym e) p.0 | inr ne ↦ below_at n f p.1 i (omega arith) ]

all_at : {A : Type 0} (f : A → Bool) (xs : List A) → all_of f xs ≡ true → (x : A) → x ∈ xs → f x ≡ true
all_at f [] t x m = absurd (in_none x m)
all_at f (y ∷ ys) t x m =
    let p = and_parts (f y) (all_of f ys) t in
    elim (in_cases x y ys m) [ inl e ↦ subst (λ z. f z ≡ true) (sym e) p.0 | inr n ↦ all_at f ys p.1 x n ]

no_two_at : {A : Type 0} (f : A → A → Bool) (us vs zs : List A) (x y : A) → no_two f (us ++ (x ∷ (vs ++ (y ∷ zs)))) ≡ true → f x y ≡ false
no_two_at f [] vs zs x y t = not-true (f x y) (all_at (λ z. not (f x z)) (vs ++ (y ∷ zs)) (and_parts _ (no_two f (vs ++ (y ∷ zs))) t).0 y (vs, zs, refl))
no_two_at f (u ∷ us) vs zs x y t = no_two_at f us vs zs x y (and_parts _ (no_two f (us ++ (x ∷ (vs ++ (y ∷ zs))))) t).1

-- The laws of an order at three, two and one of its tasks.
abbrev at_three : (ℕ → ℕ → Bool) → ℕ → ℕ → ℕ → Bool
at_three before a b c = not (before a b && before b c) || before a c

abbrev at_two : ℕ → (ℕ → ℕ → Bool) → ℕ → ℕ → Bool
at_two n before a b = (eqb a b || (before a b || before b a)) && (not (before a b && before b a) && all_below n (at_three before a b))

abbrev at_one : ℕ → (ℕ → ℕ → Bool) → ℕ → Bool
at_one n before a = not (before a a) && all_below n (at_two n before a)

module _ (n : ℕ) (before : ℕ → ℕ → Bool) (t : all_below n (at_one n before) ≡ true) where
  one_law : (a : ℕ) → a < n → (not (before a a) ≡ true) × (all_below n (at_two n before a) ≡ true)
  one_law a ha = and_parts (not (before a a)) (all_below n (at_two n before a)) (below_at n (at_one n before) t a ha)

  two_laws : (a b : ℕ) → a < n → b < n → ((eqb a b || (before a b || before b a)) ≡ true) × (not (before a b && before b a) ≡ true) × (all_below n (at_three before a b) ≡ true)
  two_laws a b ha hb =
      let w = and_parts (eqb a b || (before a b || before b a)) (not (before a b && before b a) && all_below n (at_three before a b)) (below_at n (at_two n before a) (one_law a ha).1 b hb) in
      let v = and_parts (not (before a b && before b a)) (all_below n (at_three before a b)) w.1 in
      (w.0, v.0, v.1)

  ordered_tested : Ordered n before
  ordered_tested = record {
    irreflexive = λ a ha h. both_ways (before a a) (not-true (before a a) (one_law a ha).0) (from_T (before a a) h);
    connected = λ a b ha hb ne.
        elim (or_cases (eqb a b) (before a b || before b a) (two_laws a b ha hb).0) [
          | inl e ↦ absurd (ne (eqb-true a b e))
          | inr w ↦ elim (or_cases (before a b) (before b a) w) [ inl x ↦ inl (to_T (before a b) x) | inr x ↦ inr (to_T (before b a) x) ]
        ];
    asymmetric = λ a b ha hb x y.
        both_ways (before a b && before b a) (not-true (before a b && before b a) (two_laws a b ha hb).1)
        (and_from (before a b) (before b a) (from_T (before a b) x) (from_T (before b a) y));
    transitive = λ a b c ha hb hc x y.
        elim (or_cases (not (before a b && before b c)) (before a c) (below_at n (at_three before a b) (two_laws a b ha hb).2 c hc)) [
          | inl z ↦ absurd (both_ways (before a b && before b c) (not-true (before a b && before b c) z) (and_from (before a b) (before b c) (from_T (before a b) x) (from_T (before b c) y)))
          | inr z ↦ to_T (before a c) z
        ];
  }

-- Two parts of one task on one processor.
abbrev twins : Part → Part → Bool
twins p q = eqb p.task q.task && eqb p.processor q.processor

-- A part names a task and a processor of the system, and is on the scale.
abbrev fits : System → Part → Bool
fits sys p = (ltb p.task sys.tasks && ltb p.processor sys.procs) && (leb 1 p.cost && (leb 1 p.window && leb p.window 100000))

fits_parts : (sys : System) (p : Part) → fits sys p ≡ true →
    ((p.task < sys.tasks) × (p.processor < sys.procs)) × ((1 ≤ p.cost) × (1 ≤ p.window) × (p.window ≤ 100000))
fits_parts sys p t =
    let a = and_parts (ltb p.task sys.tasks && ltb p.processor sys.procs) (leb 1 p.cost && (leb 1 p.window && leb p.window 100000)) t in
    let b = and_parts (ltb p.task sys.tasks) (ltb p.processor sys.procs) a.0 in
    let c = and_parts (leb 1 p.cost) (leb 1 p.window && leb p.window 100000) a.1 in
    let d = and_parts (leb 1 p.window) (leb p.window 100000) c.1 in
    ((ltb-true _ _ b.0, ltb-true _ _ b.1), (leb-true _ _ c.0, leb-true _ _ d.0, leb-true _ _ d.1))

-- The parts of a task do its work, and its windows admit one release.
abbrev served : System → ℕ → Bool
served sys i = leb 1 (sys.costs i) && (eqb (work_of sys.parts i) (sys.costs i) && leb (sys.curve i (span_of sys.parts i)) 1)

served_parts : (sys : System) (i : ℕ) → served sys i ≡ true → (1 ≤ sys.costs i) × (work_of sys.parts i ≡ sys.costs i) × (sys.curve i (span_of sys.parts i) ≤ 1)
served_parts sys i t =
    let a = and_parts (leb 1 (sys.costs i)) (eqb (work_of sys.parts i) (sys.costs i) && leb (sys.curve i (span_of sys.parts i)) 1) t in
    let b = and_parts (eqb (work_of sys.parts i) (sys.costs i)) (leb (sys.curve i (span_of sys.parts i)) 1) a.1 in
    (leb-true _ _ a.0, eqb-true _ _ b.0, leb-true _ _ b.1)

-- Five tests, and the laws of the curves, make a system laid out.
pub laid_out_tested : (sys : System) → (leb sys.tasks 32 && leb (length sys.parts) 64) ≡ true → all_below sys.tasks (at_one sys.tasks sys.before) ≡ true →
    no_two twins sys.parts ≡ true → all_of (fits sys) sys.parts ≡ true → all_below sys.tasks (served sys) ≡ true →
    ((i : ℕ) → i < sys.tasks → Curve (sys.curve i)) → LaidOut sys
laid_out_tested sys few order apart each tasks curves =
    let small = and_parts (leb sys.tasks 32) (leb (length sys.parts) 64) few in
    record {
      few_tasks = leb-true _ _ small.0;
      few_parts = leb-true _ _ small.1;
      ordered = ordered_tested sys.tasks sys.before order;
      curves = curves;
      known = λ p m. (fits_parts sys p (all_at (fits sys) sys.parts each p m)).0;
      scaled = λ p m. (fits_parts sys p (all_at (fits sys) sys.parts each p m)).1;
      apart = λ xs ys zs p q e et ep.
          both_ways (twins p q) (no_two_at twins xs ys zs p q (subst (λ ps. no_two twins ps ≡ true) e apart)) (and_from _ _ (eq-eqb _ _ et) (eq-eqb _ _ ep));
      working = λ i h. (served_parts sys i (below_at sys.tasks (served sys) tasks i h)).0;
      summed = λ i h. (served_parts sys i (below_at sys.tasks (served sys) tasks i h)).1;
      exclusive = λ i h. (served_parts sys i (below_at sys.tasks (served sys) tasks i h)).2;
    }
