-- The items of a line, one after another.
use Rattle.std.proofs.Common.{◌≡◌, ℕ, suc, ◌-◌, ◌<◌, ◌≤◌, ◌⊎◌, List, [], ◌∷◌, length, get_or, take, replicate, sym, refl, ap, ◌∙◌, subst, ap₂, ⊎_elim, arith}
use Rattle.std.proofs.lemmas.List.{take-replicate}
use Rattle.sheet.specs.declared.symbol.Limits.{Limits}
use Rattle.sheet.specs.Reading.{Read, got, next, expected}
use Rattle.schedule.specs.declared.Part.{Part}
use Rattle.sheets.specs.Texts.{no_part}
use Rattle.sheets.specs.declared.lines.Pair.{Pair}
use Rattle.sheets.specs.Grammar.{ticks, items, pair_within, pairs, numbers, line_of_numbers, line_of_pairs, assembled, part_of, none}

-- A reading whose first step gives x.
pub next_got : {A B : Type 0} (r : Read A) (f : A → ℕ → List ℕ → Read B) (x : A) (at : ℕ) (xs : List ℕ) → r ≡ got x at xs → next r f ≡ f x at xs
next_got r f x at xs h = ap (λ (r : Read _). next r f) h

-- So many of an array whose items are all the same.
some_same : {W : Type 0} (n most : ℕ) (w : W) → n ≤ most → take (n - 0) (replicate most w) ≡ replicate n w
some_same n most w h = ap (λ (k : ℕ). take k (replicate most w)) (omega arith) ∙ take-replicate n most w h

-- A line of periods or costs, past its letter.
pub ticks_line : (count letter at : ℕ) (xs : List ℕ) (at' : ℕ) (xs' : List ℕ) (R : Read (List ℕ)) → count ≤ 32 → (letter ≡ 67) ⊎ (letter ≡ 80)
    → expected letter at xs ≡ got tt at' xs' → numbers (take (count - 0) (replicate 32 ticks)) at' xs' ≡ R
    → line_of_numbers letter count at xs ≡ R
ticks_line count letter at xs at' xs' R few which k n =
    let n' = subst (λ (ls : List Limits). numbers ls at' xs' ≡ R) (some_same count 32 ticks few) n in
    ⊎_elim
    (λ (e : letter ≡ 67). subst (λ (z : ℕ). expected z at xs ≡ got tt at' xs' → line_of_numbers z count at xs ≡ R) (sym e)
    (λ k. next_got (expected 67 at xs) _ tt at' xs' k ∙ n') k)
    (λ (e : letter ≡ 80). subst (λ (z : ℕ). expected z at xs ≡ got tt at' xs' → line_of_numbers z count at xs ≡ R) (sym e)
    (λ k. next_got (expected 80 at xs) _ tt at' xs' k ∙ n') k) which

-- A line of pairs, past its letter.
pub pairs_line : (count letter own at : ℕ) (xs : List ℕ) (at' : ℕ) (xs' : List ℕ) (w : Pair Limits) (R : Read (List (Pair ℕ)))
    → ((at : ℕ) (xs : List ℕ) → line_of_pairs own count at xs ≡ next (expected own at xs) (λ _ at xs. pairs w.left w.right count at xs))
    → count ≤ 64 → letter ≡ own → expected letter at xs ≡ got tt at' xs' → items pair_within (take (count - 0) (replicate 64 w)) at' xs' ≡ R
    → line_of_pairs letter count at xs ≡ R
pairs_line count letter own at xs at' xs' w R line few e k n =
    ap (λ (z : ℕ). line_of_pairs z count at xs) e ∙ line at xs
    ∙ next_got (expected own at xs) _ tt at' xs' (ap (λ (z : ℕ). expected z at xs) (sym e) ∙ k)
    ∙ subst (λ (ws : List (Pair Limits)). items pair_within ws at' xs' ≡ R) (some_same count 64 w few) n

-- Parts that are made of these places and amounts, one by one.
pub assembled_each : (parts : List Part) (ps qs : List (Pair ℕ)) → length parts ≡ length ps → length qs ≡ length ps
    → ((k : ℕ) → k < length parts → get_or parts k no_part ≡ part_of (get_or ps k none) (get_or qs k none)) → parts ≡ assembled ps qs
assembled_each [] [] qs e f h = refl
assembled_each [] (p ∷ ps) qs e f h = absurd (omega (arith, e))
assembled_each (part ∷ parts) [] qs e f h = absurd (omega (arith, e))
assembled_each (part ∷ parts) (p ∷ ps) [] e f h = absurd (omega (arith, f))
assembled_each (part ∷ parts) (p ∷ ps) (q ∷ qs) e f h =
    ap₂ (λ (x : Part) (xs : List Part). x ∷ xs) (h 0 (omega arith)) (assembled_each parts ps qs (omega arith) (omega arith) (λ k l. h (suc k) (omega arith)))
