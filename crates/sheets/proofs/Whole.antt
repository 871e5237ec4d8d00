-- The lines of whole sheets, one after another.
use Rattle.std.proofs.Common.{◌≡◌, ℕ, zero, suc, ◌<◌, ◌≤◌, List, [], ◌∷◌, length, get_or, Ok, Err, Result, sym, refl, ap, ◌∙◌, subst, arith}
use Rattle.schedule.specs.declared.Part.{Part}
use Rattle.sheet.specs.declared.cursor.Cursor.{Cursor}
use Rattle.sheet.specs.declared.fault.SheetFault.{SheetFault}
use Rattle.sheet.specs.declared.fault.SheetFault.TheVariants.{Overlong, Misspelt}
use Rattle.sheet.specs.Reading.{got, told, opened, ended}
use Rattle.sheet.proofs.Scale.{next_both}
use Rattle.sheets.specs.declared.lines.Pair.{Pair}
use Rattle.sheets.specs.Answers.{ReadsWhole}
use Rattle.sheets.specs.Grammar.{limits, ticks, none, closed, line_of_numbers, line_of_pairs, lines_of_plan, assembled}
use Rattle.sheets.proofs.Bounds.{first_fits, part_count_fits, places_fit, amounts_fit, fit_pairs_length, fit_pairs_at}

-- Places and amounts that are read can be made into parts.
pub assembles : (n at : ℕ) (xs : List ℕ) (p : List (Pair ℕ)) (at₁ : ℕ) (xs₁ : List ℕ) → line_of_pairs 80 n at xs ≡ got p at₁ xs₁
    → (q : List (Pair ℕ)) (at₂ : ℕ) (xs₂ : List ℕ) → line_of_pairs 65 n at₁ xs₁ ≡ got q at₂ xs₂ → n ≤ 64
    → (length q ≡ length p) × ((length p ≤ 64)
    × ((i : ℕ) → i < length p → ((get_or p i none).left < 256) × ((get_or p i none).right < 256)))
assembles n at xs p at₁ xs₁ P q at₂ xs₂ A h =
    let a = places_fit n at xs p at₁ xs₁ P in
    let la = fit_pairs_length (limits 0 31) (limits 0 7) n p a in
    let lb = fit_pairs_length ticks ticks n q (amounts_fit n at₁ xs₁ q at₂ xs₂ A) in (
      lb ∙ sym la,
      (
        omega arith,
        λ i k.
            let w = fit_pairs_at (limits 0 31) (limits 0 7) n p a i (omega (arith, k, la)) in
            (omega (arith, w.0.1), omega (arith, w.1.1)),
      ),
    )

-- As many parts as places and amounts.
pub assembled_length : (n : ℕ) (ps qs : List (Pair ℕ)) → length ps ≡ n → length qs ≡ n → length (assembled ps qs) ≡ n
assembled_length n [] qs h k = h
assembled_length n (p ∷ ps) [] h k = k
assembled_length zero (p ∷ ps) (q ∷ qs) h k = absurd (omega (arith, h))
assembled_length (suc n) (p ∷ ps) (q ∷ qs) h k = ap suc (assembled_length n ps qs (omega arith) (omega arith))

-- A plan that is read has 1 to 64 parts.
pub plan_count : (at : ℕ) (xs : List ℕ) (ps : List Part) (at' : ℕ) (xs' : List ℕ) → lines_of_plan at xs ≡ got ps at' xs' → (1 ≤ length ps) × (length ps ≤ 64)
plan_count at xs ps at' xs' h =
    let a = next_both (line_of_numbers 75 0 at xs) _ ps at' xs' h in
    let n = get_or a.0 0 0 in
    let b = next_both (line_of_pairs 80 n a.1 a.2) _ ps at' xs' a.4 in
    let c = next_both (line_of_pairs 65 n b.1 b.2) _ ps at' xs' b.4 in
    let w = first_fits (limits 1 64) [] a.0 (part_count_fits 0 at xs a.0 a.1 a.2 a.3) in
    let lb = fit_pairs_length (limits 0 31) (limits 0 7) n b.0 (places_fit n a.1 a.2 b.0 b.1 b.2 b.3) in
    let lc = fit_pairs_length ticks ticks n c.0 (amounts_fit n b.1 b.2 c.0 c.1 c.2 c.3) in
    let e : assembled b.0 c.0 ≡ ps = cc c.4 in
    let l = assembled_length n b.0 c.0 lb lc in
    subst (λ (z : List Part). (1 ≤ length z) × (length z ≤ 64)) e (omega (arith, l, w.0), omega (arith, l, w.1))

-- What is read ends with the input, or does not.
pub closed_here : {A : Type 0} (x : A) (at : ℕ) (xs : List ℕ) (u : Unit {0}) → Ok u ≡ ended at xs → closed (got x at xs) ≡ Ok x
closed_here x at [] u h = refl
closed_here x at (b ∷ bs) u h = let z : ◌≡◌ {A = ℕ} 0 1 = cc in absurd (omega arith)

pub not_closed_here : {A : Type 0} (x : A) (at : ℕ) (xs : List ℕ) (e : SheetFault) → Err e ≡ ended at xs → closed (got x at xs) ≡ Err e
not_closed_here x at [] e h = let z : ◌≡◌ {A = ℕ} 0 1 = cc in absurd (omega arith)
not_closed_here x at (b ∷ bs) e h = let k : e ≡ Misspelt at = cc in ap Err (sym k)

-- A run from the start of an input that is not too long.
pub one_run : {A : Type 0} (runs : Cursor → Result A SheetFault → Cursor → Type 0) (bytes : List ℕ) (n : ℕ) (start last : Cursor) (r result : Result A SheetFault)
    → Ok n ≡ opened bytes → start.at ≡ 0 → start.rest.now ≡ bytes → runs start r last → result ≡ closed (told r last.at last.rest.now)
    → ReadsWhole runs bytes result
one_run runs bytes n start last r result opens place rest ran e = (
  λ t. let k : Ok n ≡ Err Overlong = rw t at opens in let z : ◌≡◌ {A = ℕ} 0 1 = cc in absurd (omega arith),
  λ _. (start, last, r, place, rest, ran, e),
)
