-- What the tests of periods and costs tell, and what holds of the tasks of every set.
use Rattle.std.proofs.Common.{◌≡◌, ℕ, zero, suc, ◌+◌, ◌-◌, ◌<◌, ◌≤◌, false, not, ◌&&◌, ◌||◌, ltb, List, length, get_or, replicate, Some, None, sym, refl, ◌∙◌, subst, inl, inr, arith}
use Rattle.std.proofs.lemmas.List.{get_or-replicate, get_or_past, length-take-le}
use Rattle.std.proofs.lemmas.List.Sorted.{IsNonDecreasingBy-from_all_adjacent}
use Rattle.std.proofs.lemmas.Option.{slice_get_past, slice_get_cases, get_or_from_slice_get}
use Rattle.std.proofs.lemmas.Bool.{cases_lt, cases_eq, ltb-false}
use Rattle.std.specs.Array.{IsFromFnResult, IsFromFnResultFrom}
use Rattle.std.specs.List.{All, slice_get}
use Rattle.std.specs.List.Sorted.{IsNonDecreasingBy}
use denote.Param.Members.{Mut, Called}
use Rattle.std.proofs.lemmas.Bool.Decides.{nat_tests}
use Rattle.tasks.proofs.Searches.{none_where}
use Rattle.tasks.specs.Searches.{first_where}
use Rattle.tasks.specs.Sets.{miscounted, on_scale, off_scale, falls, overfull, task_list, period_of, cost_of}
use Rattle.tasks.specs.declared.set.Task.{Task}
use Rattle.tasks.specs.declared.set.TaskSet.{TaskSet}

pub scaled_from : (p c : ℕ) → (not (on_scale p) || not (on_scale c)) ≡ false → (1 ≤ p) × (p ≤ 100000) × (1 ≤ c) × (c ≤ 100000)
scaled_from p c e = grind (arith, nat_tests)

pub rises_from : (i p q : ℕ) → (ltb 0 (i + 1) && ltb p q) ≡ false → q ≤ p
rises_from i p q e = grind (arith, nat_tests)

pub counted_from : (values others : List ℕ) → false ≡ miscounted values others → (1 ≤ length values) × (length values ≤ 32) × (length others ≡ length values)
counted_from values others e = grind (arith, nat_tests)

made_from : {F B : Type 0} (g : Mut F (ℕ × Unit {0}) B) (h : ℕ → B) (f : F) (ys : List B) (i n : ℕ) → IsFromFnResultFrom g f ys i n → ((j : ℕ) (y : B) (q : F) → Called g f (j, tt) y q → (q ≡ f) × (y ≡ h j)) → (k : ℕ) (d : B) → i ≤ k → k < i + n → get_or ys k d ≡ h k
made_from g h f ys i zero made calls k d low high = absurd (omega arith)
made_from g h f ys i (suc n) made calls k d low high =
    let call = calls i made.1 made.0 made.3 in
    elim (cases_eq k i) [
      | inl e ↦ rw e (made.2.1 d ∙ call.1)
      | inr ne ↦ made_from g h f ys (i + 1) n (subst (λ q. IsFromFnResultFrom g q ys (i + 1) n) call.0 made.4) calls k d (omega arith) (omega arith)
    ]

-- an array of 32 zeros has 0 everywhere
pub zeros : (k : ℕ) → get_or {A = ℕ} (replicate 32 0) k 0 ≡ 0
zeros k = elim (cases_lt k 32) [ inl h ↦ get_or-replicate 32 k 0 0 h | inr h ↦ get_or_past (replicate 32 0) k 0 h ]

-- what `from_fn` makes, where a call leaves its closure as it was
pub made_by : {F B : Type 0} {g : Mut F (ℕ × Unit {0}) B} (h : ℕ → B) (f : F) (ys : List B) (n : ℕ) → IsFromFnResult g f ys n → ((j : ℕ) (y : B) (q : F) → Called g f (j, tt) y q → (q ≡ f) × (y ≡ h j)) → (k : ℕ) (d : B) → k < n → get_or ys k d ≡ h k
made_by {g = g} h f ys n made calls k d l = made_from g h f ys 0 n made.each calls k d (omega arith) (omega arith)

-- A list of n whose elements are known one by one.
module _ {X : Type 0} (xs : List X) (n : ℕ) (f : ℕ → X) (long : length xs ≡ n) (each : (i : ℕ) → i < n → slice_get xs i ≡ Some (f i)) where
  at : (i : ℕ) (d : X) → i < length xs → get_or xs i d ≡ f i
  at i d h = get_or_from_slice_get xs i (f i) d (each i (omega arith))

  pub all_known : (P : X → Type 0) → ((i : ℕ) → i < n → P (f i)) → All P xs
  all_known P holds i d h = subst P (sym (at i d h)) (holds i (omega arith))

  pub rises_known : (key : X → ℕ) → ((i : ℕ) → i + 1 < n → key (f i) ≤ key (f (i + 1))) → IsNonDecreasingBy key xs
  rises_known key rises = IsNonDecreasingBy-from_all_adjacent key xs (λ i d h. rw (at i d (omega arith), at (i + 1) d h) (rises i (omega arith)))

-- Tasks of which no search has found fault keep the laws of a set.
module _ (ps cs : List ℕ) where
  pub scale : None ≡ first_where (off_scale ps cs) (length ps) → (i : ℕ) → i < length ps → (1 ≤ get_or ps i 0) × (get_or ps i 0 ≤ 100000) × (1 ≤ get_or cs i 0) × (get_or cs i 0 ≤ 100000)
  scale on i h = scaled_from (get_or ps i 0) (get_or cs i 0) (none_where (off_scale ps cs) (length ps) (sym on) i h)

  pub step : None ≡ first_where (falls ps) (length ps) → (i : ℕ) → i + 1 < length ps → get_or ps i 0 ≤ get_or ps (i + 1) 0
  step rise i h =
      let e : i + 1 - 1 ≡ i = omega arith in
      subst (λ k. get_or ps k 0 ≤ get_or ps (i + 1) 0) e (rises_from i (get_or ps (i + 1) 0) (get_or ps (i + 1 - 1) 0) (none_where (falls ps) (length ps) (sym rise) (i + 1) h))

  pub within : None ≡ first_where (overfull ps cs) (length ps) → (i : ℕ) → i < length ps → get_or cs i 0 ≤ get_or ps i 0
  within fit i h = ltb-false (get_or ps i 0) (get_or cs i 0) (none_where (overfull ps cs) (length ps) (sym fit) i h)

module _ (s : TaskSet) where
  count_tasks : length (task_list s) ≡ s.count
  count_tasks = length-take-le s.count s.tasks (omega (arith, s.few, s.wide))

  -- a task of the set, within its limits
  pub task_here : (i : ℕ) → i < s.count → (t : Task) × (slice_get (task_list s) i ≡ Some t) × (1 ≤ t.cost) × (t.cost ≤ t.period) × (t.period ≤ 100000)
  task_here i h = elim (slice_get_cases (task_list s) i).1 [
    | inl a ↦
        let limits = subst (λ (t : Task). (1 ≤ t.cost) × (t.cost ≤ t.period) × (t.period ≤ 100000)) a.3 (s.working i a.0 a.1, s.lasting i a.0 a.1, s.scaled i a.0 a.1) in
        (a.0, a.2, limits.0, limits.1, limits.2)
    | inr b ↦ absurd (omega (arith, b.0, count_tasks))
  ]

  past : (i : ℕ) → s.count ≤ i → slice_get (task_list s) i ≡ None
  past i h = slice_get_past (task_list s) i (omega (arith, count_tasks))

  -- Past the set's tasks periods are 1 and costs 0.
  pub past_period : (i : ℕ) → s.count ≤ i → period_of s i ≡ 1
  past_period i h = rw (past i h) refl

  pub past_cost : (i : ℕ) → s.count ≤ i → cost_of s i ≡ 0
  past_cost i h = rw (past i h) refl

  -- The periods of a set are on the scale, past its tasks too.
  pub period_scaled : (i : ℕ) → (1 ≤ period_of s i) × (period_of s i ≤ 100000)
  period_scaled i = elim (cases_lt i s.count) [
    | inl h ↦ let t = task_here i h in rw t.1 (omega (arith, t.2, t.3, t.4))
    | inr h ↦ rw (past_period i h) (omega arith)
  ]

  -- A task's cost is 1 to its period.
  pub cost_scaled : (i : ℕ) → i < s.count → (1 ≤ cost_of s i) × (cost_of s i ≤ period_of s i)
  cost_scaled i h = let t = task_here i h in rw t.1 (t.2, t.3)
