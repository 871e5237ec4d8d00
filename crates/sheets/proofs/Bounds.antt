-- What is read is within its limits, and there is as much of it as there should be.
use Rattle.std.proofs.Common.{◌≡◌, ℕ, zero, suc, ◌<◌, ◌≤◌, List, [], ◌∷◌, length, get_or, replicate, refl, ap, ◌∙◌, subst, arith}
use Rattle.std.proofs.lemmas.List.{length-replicate}
use Rattle.sheet.specs.declared.symbol.Limits.{Limits}
use Rattle.sheet.specs.declared.symbol.Stop.{Stop}
use Rattle.sheet.specs.declared.symbol.Stop.TheVariants.{Slash}
use Rattle.sheet.specs.Reading.{Read, got, expected, number}
use Rattle.sheet.proofs.Scale.{next_both, number_within}
use Rattle.sheets.specs.declared.lines.Pair.{Pair}
use Rattle.sheets.specs.Grammar.{limits, ticks, items, numbers, pair_within, pairs, none, next_stop, line_of_numbers, line_of_pairs}

abbrev pub Within : Limits → ℕ → Type 0
Within l v = (l.least ≤ v) × (v ≤ l.most)

abbrev pub PairWithin : Pair Limits → Pair ℕ → Type 0
PairWithin w p = Within w.left p.left × Within w.right p.right

-- One item for each of the limits, which it fits.
abbrev pub FitAll : {W A : Type 0} → (W → A → Type 0) → List W → List A → Type 0
FitAll fits [] [] = Unit {0}
FitAll fits [] (v ∷ vs) = ⊥
FitAll fits (w ∷ ws) [] = ⊥
FitAll fits (w ∷ ws) (v ∷ vs) = fits w v × FitAll fits ws vs

abbrev pub Fit : List Limits → List ℕ → Type 0
Fit = FitAll Within

abbrev pub FitPairs : Limits → Limits → ℕ → List (Pair ℕ) → Type 0
FitPairs l r n = FitAll PairWithin (replicate n (record { left = l; right = r }))

-- Items that are read fit, where each does.
items_fit : {W A : Type 0} (item : W → Stop → ℕ → List ℕ → Read A) (fits : W → A → Type 0)
    → ((w : W) (s : Stop) (at : ℕ) (xs : List ℕ) (v : A) (at' : ℕ) (xs' : List ℕ) → item w s at xs ≡ got v at' xs' → fits w v)
    → (ws : List W) (at : ℕ) (xs : List ℕ) (vs : List A) (at' : ℕ) (xs' : List ℕ) → items item ws at xs ≡ got vs at' xs' → FitAll fits ws vs
items_fit item fits one [] at xs vs at' xs' h =
    let p = next_both (expected 10 at xs) _ vs at' xs' h in
    let e : [] ≡ vs = cc p.4 in
    subst (FitAll fits []) e tt
items_fit item fits one (w ∷ ws) at xs vs at' xs' h =
    let p = next_both (expected 32 at xs) _ vs at' xs' h in
    let q = next_both (item w (next_stop (length ws)) p.1 p.2) _ vs at' xs' p.4 in
    let r = next_both (items item ws q.1 q.2) _ vs at' xs' q.4 in
    let e : (q.0 ∷ r.0) ≡ vs = cc r.4 in
    subst (FitAll fits (w ∷ ws)) e (one w (next_stop (length ws)) p.1 p.2 q.0 q.1 q.2 q.3, items_fit item fits one ws q.1 q.2 r.0 r.1 r.2 r.3)

pub fit_length : {W A : Type 0} (fits : W → A → Type 0) (ws : List W) (vs : List A) → FitAll fits ws vs → length vs ≡ length ws
fit_length fits [] [] h = refl
fit_length fits [] (v ∷ vs) h = absurd h
fit_length fits (w ∷ ws) [] h = absurd h
fit_length fits (w ∷ ws) (v ∷ vs) h = ap suc (fit_length fits ws vs h.1)

pub numbers_fit : (ls : List Limits) (at : ℕ) (xs : List ℕ) (vs : List ℕ) (at' : ℕ) (xs' : List ℕ) → numbers ls at xs ≡ got vs at' xs' → Fit ls vs
numbers_fit = items_fit number Within number_within

pair_fits : (w : Pair Limits) (s : Stop) (at : ℕ) (xs : List ℕ) (p : Pair ℕ) (at' : ℕ) (xs' : List ℕ) → pair_within w s at xs ≡ got p at' xs' → PairWithin w p
pair_fits w s at xs p at' xs' h =
    let a = next_both (number w.left Slash at xs) _ p at' xs' h in
    let b = next_both (expected 47 a.1 a.2) _ p at' xs' a.4 in
    let c = next_both (number w.right s b.1 b.2) _ p at' xs' b.4 in
    let e : record { left = a.0; right = c.0 } ≡ p = cc c.4 in
    subst (PairWithin w) e (number_within w.left Slash at xs a.0 a.1 a.2 a.3, number_within w.right s b.1 b.2 c.0 c.1 c.2 c.3)

pairs_fit : (l r : Limits) (n : ℕ) (at : ℕ) (xs : List ℕ) (ps : List (Pair ℕ)) (at' : ℕ) (xs' : List ℕ) → pairs l r n at xs ≡ got ps at' xs' → FitPairs l r n ps
pairs_fit l r n = items_fit pair_within PairWithin pair_fits (replicate n (record { left = l; right = r }))

pub fit_pairs_length : (l r : Limits) (n : ℕ) (ps : List (Pair ℕ)) → FitPairs l r n ps → length ps ≡ n
fit_pairs_length l r n ps h = fit_length PairWithin (replicate n (record { left = l; right = r })) ps h ∙ length-replicate n _

pub fit_pairs_at : (l r : Limits) (n : ℕ) (ps : List (Pair ℕ)) → FitPairs l r n ps → (i : ℕ) → i < n → PairWithin (record { left = l; right = r }) (get_or ps i none)
fit_pairs_at l r zero ps h i k = absurd (omega (arith, k))
fit_pairs_at l r (suc n) [] h i k = absurd h
fit_pairs_at l r (suc n) (p ∷ ps) h zero k = h.0
fit_pairs_at l r (suc n) (p ∷ ps) h (suc i) k = fit_pairs_at l r n ps h.1 i (omega arith)

-- The line of a letter, past the letter.
pub number_line_fits : (n at : ℕ) (xs vs : List ℕ) (at' : ℕ) (xs' : List ℕ) → line_of_numbers 84 n at xs ≡ got vs at' xs' → Fit (limits 1 32 ∷ limits 1 8 ∷ []) vs
number_line_fits n at xs vs at' xs' h =
    let p = next_both (expected 84 at xs) _ vs at' xs' h in
    numbers_fit (limits 1 32 ∷ limits 1 8 ∷ []) p.1 p.2 vs at' xs' p.4

pub part_count_fits : (n at : ℕ) (xs vs : List ℕ) (at' : ℕ) (xs' : List ℕ) → line_of_numbers 75 n at xs ≡ got vs at' xs' → Fit (limits 1 64 ∷ []) vs
part_count_fits n at xs vs at' xs' h =
    let p = next_both (expected 75 at xs) _ vs at' xs' h in
    numbers_fit (limits 1 64 ∷ []) p.1 p.2 vs at' xs' p.4

pub first_fits : (l : Limits) (ls : List Limits) (vs : List ℕ) → Fit (l ∷ ls) vs → Within l (get_or vs 0 0)
first_fits l ls [] h = absurd h
first_fits l ls (v ∷ vs) h = h.0

-- A task sheet has 1 to 32 tasks, and a plan sheet 1 to 64 parts.
pub task_count : (n at : ℕ) (xs a : List ℕ) (at' : ℕ) (xs' : List ℕ) → line_of_numbers 84 n at xs ≡ got a at' xs' → Within (limits 1 32) (get_or a 0 0) × (length a ≡ 2)
task_count n at xs a at' xs' h =
    let f = number_line_fits n at xs a at' xs' h in
    (first_fits (limits 1 32) (limits 1 8 ∷ []) a f, fit_length Within (limits 1 32 ∷ limits 1 8 ∷ []) a f)

pub part_count : (n at : ℕ) (xs a : List ℕ) (at' : ℕ) (xs' : List ℕ) → line_of_numbers 75 n at xs ≡ got a at' xs' → Within (limits 1 64) (get_or a 0 0) × (length a ≡ 1)
part_count n at xs a at' xs' h =
    let f = part_count_fits n at xs a at' xs' h in
    (first_fits (limits 1 64) [] a f, fit_length Within (limits 1 64 ∷ []) a f)

pub places_fit : (n at : ℕ) (xs : List ℕ) (ps : List (Pair ℕ)) (at' : ℕ) (xs' : List ℕ) → line_of_pairs 80 n at xs ≡ got ps at' xs' → FitPairs (limits 0 31) (limits 0 7) n ps
places_fit n at xs ps at' xs' h =
    let p = next_both (expected 80 at xs) _ ps at' xs' h in
    pairs_fit (limits 0 31) (limits 0 7) n p.1 p.2 ps at' xs' p.4

pub amounts_fit : (n at : ℕ) (xs : List ℕ) (ps : List (Pair ℕ)) (at' : ℕ) (xs' : List ℕ) → line_of_pairs 65 n at xs ≡ got ps at' xs' → FitPairs ticks ticks n ps
amounts_fit n at xs ps at' xs' h =
    let p = next_both (expected 65 at xs) _ ps at' xs' h in
    pairs_fit ticks ticks n p.1 p.2 ps at' xs' p.4
