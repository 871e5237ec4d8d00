-- How the tables of a layout grow by one part.
use Rattle.std.proofs.Common.{◌≡◌, ℕ, zero, suc, ◌+◌, ◌*◌, ◌<◌, ◌≤◌, Bool, true, false, cond, eqb, List, [], ◌∷◌, ◌++◌, length, get_or, take, drop, set, replicate, Some, None, Option, sym, refl, ap, ◌∙◌, subst, inl, inr, arith}
use Rattle.std.proofs.lemmas.List.{get_or-set_same, get_or-set_other, get_or-take, get_or_at, drop_more, drop_all, length-append, length-take, take-take, take_at}
use Rattle.std.proofs.lemmas.Bool.{cases_eq, eq-eqb, ne_eqb}
use Rattle.schedule.specs.declared.Part.{Part}
use Rattle.schedule.specs.Layout.{span_of}
use Rattle.plan.specs.Checks.{part_at}
use Rattle.plan.proofs.Totals.{total_more}
use Rattle.machine.specs.Placing.{next_from, next_part, Runnable}

-- What stands in a list after a write.
pub written : {X : Type 0} (xs : List X) (t i : ℕ) (v d : X) → t < length xs → get_or (set xs t v) i d ≡ cond (eqb t i) v (get_or xs i d)
written xs t i v d h = elim (cases_eq t i) [
  | inl e ↦ rw (eq-eqb t i e, ← e) (get_or-set_same xs t v d h)
  | inr ne ↦ rw (ne_eqb t i ne) (get_or-set_other xs t i v d (λ e. ne (sym e)))
]

-- A list of one value has it everywhere.
pub all_same : {X : Type 0} (n i : ℕ) (x : X) → get_or (replicate n x) i x ≡ x
all_same zero i x = refl
all_same (suc n) zero x = refl
all_same (suc n) (suc i) x = all_same n i x

-- One part more in a task's span.
pub span_more : (ps : List Part) (k i : ℕ) → k < length ps → span_of (take (k + 1) ps) i ≡ span_of (take k ps) i + cond (eqb (part_at ps k).task i) (part_at ps k).window 0
span_more ps k i h = total_more (λ (q : Part). cond (eqb q.task i) q.window 0) ps k (record { task = 0; processor = 0; cost = 0; window = 0 }) h

-- The spans so far, with a bound.
abbrev pub Spans : List Part → ℕ → List ℕ → Type 0
Spans ps k spans = (i : ℕ) → i < 32 → (get_or spans i 0 ≡ span_of (take k ps) i) × (get_or spans i 0 ≤ k * 100000)

added : (b : Bool) (x y w : ℕ) → cond b (x + w) y ≡ cond b x y + cond b w 0
added true x y w = refl
added false x y w = omega arith

at_most : (b : Bool) (w m : ℕ) → w ≤ m → cond b w 0 ≤ m
at_most true w m h = h
at_most false w m h = omega arith

pub spans_more : (ps : List Part) (k : ℕ) (spans : List ℕ) → k < length ps → length spans ≡ 32 → (part_at ps k).task < 32 → (part_at ps k).window ≤ 100000 → Spans ps k spans →
    Spans ps (k + 1) (set spans (part_at ps k).task (get_or spans (part_at ps k).task 0 + (part_at ps k).window))
spans_more ps k spans h whole t w s i l =
    let task = (part_at ps k).task in
    let win = (part_at ps k).window in
    let b = eqb task i in
    let here = written spans task i (get_or spans task 0 + win) 0 (omega arith) in
    let parts = added b (get_or spans task 0) (get_or spans i 0) win in
    let same : cond b (get_or spans task 0) (get_or spans i 0) ≡ get_or spans i 0 =
    elim (cases_eq task i) [ inl e ↦ rw (eq-eqb task i e) (ap (λ (z : ℕ). get_or spans z 0) e) | inr ne ↦ rw (ne_eqb task i ne) refl ] in
    (omega (arith, here, parts, same, span_more ps k i h, (s i l).0), omega (arith, here, parts, same, at_most b win 100000 w, (s i l).1))

-- Where there is no part more, none comes next.
pub next_end : (ps : List Part) (i k : ℕ) → length ps ≤ k → next_part ps i k ≡ None
next_end ps i k h = ap (next_from i k) (drop_all k ps h)

-- What comes next from a part on: the part itself, where it is of the task.
pub next_here : (ps : List Part) (i k : ℕ) → k < length ps → next_part ps i k ≡ cond (eqb (part_at ps k).task i) (Some k) (next_part ps i (suc k))
next_here ps i k h =
    let up : k + 1 ≡ suc k = omega arith in
    ap (next_from i k) (drop_more ps k (record { task = 0; processor = 0; cost = 0; window = 0 }) h)
    ∙ ap (λ (n : ℕ). cond (eqb (part_at ps k).task i) (Some k) (next_from i (suc k) (drop n ps))) up

-- The first parts among those from k on.
abbrev pub Firsts : List Part → ℕ → List (Option ℕ) → Type 0
Firsts ps k first = (i : ℕ) → i < 32 → get_or first i None ≡ next_part ps i k

pub firsts_more : (ps : List Part) (k : ℕ) (first : List (Option ℕ)) → k < length ps → length first ≡ 32 → (part_at ps k).task < 32 → Firsts ps (suc k) first →
    Firsts ps k (set first (part_at ps k).task (Some k))
firsts_more ps k first h whole t f i l =
    written first (part_at ps k).task i (Some k) None (omega arith)
    ∙ ap (λ (o : Option ℕ). cond (eqb (part_at ps k).task i) (Some k) o) (f i l)
    ∙ sym (next_here ps i k h)

-- The windows of k parts are at most 100,000 ticks each.
pub span_bound : (ps : List Part) → Runnable ps → (k i : ℕ) → k ≤ length ps → span_of (take k ps) i ≤ k * 100000
span_bound ps r zero i h = omega arith
span_bound ps r (suc k) i h =
    let up : k + 1 ≡ suc k = omega arith in
    let one : span_of (take (k + 1) ps) i ≡ span_of (take (suc k) ps) i = ap (λ (n : ℕ). span_of (take n ps) i) up in
    omega (arith, one, span_more ps k i (omega arith), at_most (eqb (part_at ps k).task i) (part_at ps k).window 100000 (r.1 k (omega arith)).1, span_bound ps r k i (omega arith))

-- Of the first parts, the last one and those before it.
pub split_last : (ps rest : List Part) (p : Part) → rest ++ (p ∷ []) ≡ take (length (rest ++ (p ∷ []))) ps → (rest ≡ take (length rest) ps) × (p ≡ part_at ps (length rest)) × (length rest < length ps)
split_last ps rest p e =
    let n = length rest in
    let zero_part : Part = record { task = 0; processor = 0; cost = 0; window = 0 } in
    let long : length (rest ++ (p ∷ [])) ≡ n + 1 = length-append rest (p ∷ []) in
    let all : rest ++ (p ∷ []) ≡ take (n + 1) ps = subst (λ (m : ℕ). rest ++ (p ∷ []) ≡ take m ps) long e in (
      sym (take_at rest (p ∷ []) n refl) ∙ ap (take n) all ∙ take-take n (n + 1) ps (omega arith),
      sym (get_or_at rest p [] zero_part n refl) ∙ ap (λ (xs : List Part). get_or xs n zero_part) all ∙ get_or-take (n + 1) ps n zero_part (omega arith),
      omega (arith, long, ap length all, length-take (n + 1) ps),
    )
