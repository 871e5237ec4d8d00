-- Sums over the front of a list, and what part of them bounds.
use Rattle.std.proofs.Common.{◌≡◌, ℕ, ◌+◌, ◌<◌, cond, eqb, List, [], ◌∷◌, length, get_or, take, refl, ap, ◌∙◌, arith}
use Rattle.std.specs.List.{sum_by}
use Rattle.std.proofs.lemmas.List.{take_more}
use Rattle.std.proofs.lemmas.List.Recursion.{is_sum_by}
use Rattle.std.proofs.lemmas.Bool.{cond-true, cond-false, eq-eqb, ne_eqb}
use Rattle.schedule.specs.declared.Part.{Part}
use Rattle.schedule.specs.Lists.{total}
use Rattle.schedule.proofs.facts.Lists.{total_append}
use Rattle.plan.specs.Checks.{part_at}

-- A sum as std says it.
pub total_is_sum : {A : Type 0} (f : A → ℕ) (xs : List A) → total f xs ≡ sum_by f xs
total_is_sum f xs = is_sum_by (total f) f refl (λ _ _. refl) xs

-- One element more.
pub total_more : {A : Type 0} (f : A → ℕ) (xs : List A) (i : ℕ) (d : A) → i < length xs → total f (take (i + 1) xs) ≡ total f (take i xs) + f (get_or xs i d)
total_more f xs i d h =
    let e = ap (total f) (take_more xs i d h) ∙ total_append f (take i xs) (get_or xs i d ∷ []) in
    omega (arith, e)

-- One part more, of the task or of another.
pub task_more_in : (f : Part → ℕ) (ps : List Part) (i k : ℕ) → k < length ps → (part_at ps k).task ≡ i →
    total (λ p. cond (eqb p.task i) (f p) 0) (take (k + 1) ps) ≡ total (λ p. cond (eqb p.task i) (f p) 0) (take k ps) + f (part_at ps k)
task_more_in f ps i k h e =
    let here = cond-true (eqb (part_at ps k).task i) (f (part_at ps k)) 0 (eq-eqb _ _ e) in
    omega (arith, here, total_more (λ (p : Part). cond (eqb p.task i) (f p) 0) ps k (record { task = 0; processor = 0; cost = 0; window = 0 }) h)

pub task_more_out : (f : Part → ℕ) (ps : List Part) (i k : ℕ) → k < length ps → ((part_at ps k).task ≡ i → ⊥) →
    total (λ p. cond (eqb p.task i) (f p) 0) (take (k + 1) ps) ≡ total (λ p. cond (eqb p.task i) (f p) 0) (take k ps)
task_more_out f ps i k h ne =
    let here = cond-false (eqb (part_at ps k).task i) (f (part_at ps k)) 0 (ne_eqb _ _ ne) in
    omega (arith, here, total_more (λ (p : Part). cond (eqb p.task i) (f p) 0) ps k (record { task = 0; processor = 0; cost = 0; window = 0 }) h)
