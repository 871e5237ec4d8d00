-- The plan sheets are exactly the texts of plans.
use Rattle.std.proofs.Common.{◌≡◌, ℕ, zero, suc, ◌+◌, ◌<◌, ◌≤◌, true, ltb, List, [], ◌∷◌, ◌++◌, map, length, get_or, take, Ok, Err, Option, Result, sym, refl, ap, ◌∙◌, subst, ap₂, inl, inr, arith}
use Rattle.std.proofs.lemmas.List.{append_assoc, append-nil, length-append, take_at}
use Rattle.std.proofs.lemmas.Bool.{cases_Bool, le-ltb, cond-false, and_from, le-leb, not_from_true}
use Rattle.sheet.specs.Numerals.{numeral}
use Rattle.schedule.specs.declared.Part.{Part}
use Rattle.sheet.specs.declared.fault.SheetFault.{SheetFault}
use Rattle.sheet.specs.declared.fault.SheetFault.TheVariants.{Overlong}
use Rattle.sheet.specs.declared.symbol.Limits.{Limits}
use Rattle.sheet.specs.Reading.{Read, got, bad, next, expected}
use Rattle.sheet.proofs.Numerals.{expects, expected_inv}
use Rattle.sheet.proofs.Scale.{next_both}
use Rattle.sheets.specs.declared.lines.Pair.{Pair}
use Rattle.sheets.specs.declared.text.Line.TheVariants.{Places, Amounts}
use Rattle.sheets.specs.Grammar.{limits, ticks, numbers, pairs, line_of_numbers, line_of_pairs, lines_of_plan, plan_sheet, closed, whole, assembled, part_of}
use Rattle.sheets.specs.Laws.{Sheetable, SheetsAreTexts, DifferentSheets, WrittenBack}
use Rattle.sheets.specs.Texts.{pair_shown, pair_of, place_text, amounts_text, items_text, plan_text, writable, unwritable, no_part, written, written_or, fitted}
use Rattle.tasks.proofs.Searches.{first_none}
use Rattle.sheets.proofs.Bounds.{Fit, FitPairs, fit_pairs_length, part_count_fits, places_fit, amounts_fit}
use Rattle.sheets.proofs.Items.{next_got}
use Rattle.sheets.proofs.RoundTrips.{reads_numbers, numbers_inv, reads_pairs, pairs_inv}
use Rattle.sheets.proofs.Texts.{small, count_line_short, places_line_short, amounts_line_short}
use Rattle.sheets.proofs.Whole.{plan_count, assembled_length}

-- The place and the amounts of a part.
abbrev place_of : Part → Pair ℕ
place_of = pair_of Places

abbrev amounts_of : Part → Pair ℕ
amounts_of = pair_of Amounts

items_map : {A : Type 0} (f : A → Pair ℕ) (g : A → List ℕ) → ((x : A) → pair_shown (f x) ≡ g x) → (xs : List A) → items_text pair_shown (map f xs) ≡ items_text g xs
items_map f g e [] = refl
items_map f g e (x ∷ xs) = ap₂ (λ (y z : List ℕ). 32 ∷ (y ++ z)) (e x) (items_map f g e xs)

reassembled : (ps : List Part) → assembled (map place_of ps) (map amounts_of ps) ≡ ps
reassembled [] = refl
reassembled (p ∷ ps) = ap (λ (z : List Part). p ∷ z) (reassembled ps)

fit_places : (ps : List Part) → ((i : ℕ) → i < length ps → writable (get_or ps i no_part) ≡ true) → FitPairs (limits 0 31) (limits 0 7) (length ps) (map place_of ps)
fit_places [] w = tt
fit_places (p ∷ ps) w =
    let s = small p (w 0 (omega arith)) in
    (((omega arith, s.task), (omega arith, s.processor)), fit_places ps (λ i h. w (suc i) (omega arith)))

fit_amounts : (ps : List Part) → ((i : ℕ) → i < length ps → writable (get_or ps i no_part) ≡ true) → FitPairs ticks ticks (length ps) (map amounts_of ps)
fit_amounts [] w = tt
fit_amounts (p ∷ ps) w =
    let s = small p (w 0 (omega arith)) in
    (((s.cost_some, s.cost), (s.window_some, s.window)), fit_amounts ps (λ i h. w (suc i) (omega arith)))

-- The lines of a plan sheet that are written are read.
reads_count : (n at : ℕ) (rest : List ℕ) → 1 ≤ n → n ≤ 64
    → (at' : ℕ) × (line_of_numbers 75 0 at (75 ∷ 32 ∷ (numeral n ++ (10 ∷ rest))) ≡ got (n ∷ []) at' rest)
reads_count n at rest lo hi =
    let a = reads_numbers (limits 1 64 ∷ []) (n ∷ []) ((lo, hi), tt) (omega arith, tt) (at + 1) rest in (
      a.0,
      next_got (expected 75 at (75 ∷ 32 ∷ (numeral n ++ (10 ∷ rest)))) (λ _ at xs. numbers (limits 1 64 ∷ []) at xs) tt (at + 1) (32 ∷ (numeral n ++ (10 ∷ rest))) (expects 75 at _)
          ∙ ap (λ (z : List ℕ). numbers (limits 1 64 ∷ []) (at + 1) (32 ∷ z)) (sym (append_assoc (numeral n) (10 ∷ []) rest)) ∙ a.1,
    )

reads_places : (ps : List Part) (at : ℕ) (rest : List ℕ) → ((i : ℕ) → i < length ps → writable (get_or ps i no_part) ≡ true)
    → (at' : ℕ) × (line_of_pairs 80 (length ps) at (80 ∷ (items_text place_text ps ++ rest)) ≡ got (map place_of ps) at' rest)
reads_places ps at rest w =
    let a = reads_pairs (limits 0 31) (limits 0 7) (omega arith) (omega arith) (length ps) (map place_of ps) (fit_places ps w) (at + 1) rest in (
      a.0,
      next_got (expected 80 at (80 ∷ (items_text place_text ps ++ rest))) (λ _ at xs. pairs (limits 0 31) (limits 0 7) (length ps) at xs) tt (at + 1) (items_text place_text ps ++ rest) (expects 80 at _)
          ∙ ap (λ (z : List ℕ). pairs (limits 0 31) (limits 0 7) (length ps) (at + 1) (z ++ rest)) (sym (items_map place_of place_text (λ _. refl) ps)) ∙ a.1,
    )

reads_amounts : (ps : List Part) (at : ℕ) (rest : List ℕ) → ((i : ℕ) → i < length ps → writable (get_or ps i no_part) ≡ true)
    → (at' : ℕ) × (line_of_pairs 65 (length ps) at (65 ∷ (items_text amounts_text ps ++ rest)) ≡ got (map amounts_of ps) at' rest)
reads_amounts ps at rest w =
    let a = reads_pairs ticks ticks (omega arith) (omega arith) (length ps) (map amounts_of ps) (fit_amounts ps w) (at + 1) rest in (
      a.0,
      next_got (expected 65 at (65 ∷ (items_text amounts_text ps ++ rest))) (λ _ at xs. pairs ticks ticks (length ps) at xs) tt (at + 1) (items_text amounts_text ps ++ rest) (expects 65 at _)
          ∙ ap (λ (z : List ℕ). pairs ticks ticks (length ps) (at + 1) (z ++ rest)) (sym (items_map amounts_of amounts_text (λ _. refl) ps)) ∙ a.1,
    )

pub reads_plan : (ps : List Part) → Sheetable ps → (at : ℕ) → (at' : ℕ) × (lines_of_plan at (plan_text ps) ≡ got ps at' [])
reads_plan ps s at =
    let A = items_text amounts_text ps in
    let R = items_text place_text ps ++ (65 ∷ A) in
    let k = reads_count (length ps) at (80 ∷ R) s.some s.few in
    let p = reads_places ps k.0 (65 ∷ A) s.each in
    let a = reads_amounts ps p.0 [] s.each in (
      a.0,
      next_got (line_of_numbers 75 0 at (plan_text ps))
          (λ counts at xs. next (line_of_pairs 80 (get_or counts 0 0) at xs) (λ places at xs. next (line_of_pairs 65 (get_or counts 0 0) at xs) (λ amounts at xs. got (assembled places amounts) at xs)))
          (length ps ∷ []) k.0 (80 ∷ R) k.1
          ∙ next_got (line_of_pairs 80 (length ps) k.0 (80 ∷ R)) (λ places at xs. next (line_of_pairs 65 (length ps) at xs) (λ amounts at xs. got (assembled places amounts) at xs))
          (map place_of ps) p.0 (65 ∷ A) p.1
          ∙ next_got (line_of_pairs 65 (length ps) p.0 (65 ∷ A)) (λ amounts at xs. got (assembled (map place_of ps) amounts) at xs) (map amounts_of ps) a.0 []
          (ap (λ (z : List ℕ). line_of_pairs 65 (length ps) p.0 (65 ∷ z)) (sym (append-nil A)) ∙ a.1)
          ∙ ap (λ (z : List Part). got z a.0 []) (reassembled ps),
    )

-- A plan's text is short enough to be read.
pub text_short : (ps : List Part) → Sheetable ps → length (plan_text ps) ≤ 1225
text_short ps s =
    let n = length ps in
    omega (
      arith,
      s.few,
      count_line_short n s.few,
      length-append (numeral n) (10 ∷ []),
      length-append (numeral n) (10 ∷ 80 ∷ (items_text place_text ps ++ (65 ∷ items_text amounts_text ps))),
      length-append (items_text place_text ps) (65 ∷ items_text amounts_text ps),
      places_line_short ps s.each,
      amounts_line_short ps s.each,
    )

pub sheet_of_text : (ps : List Part) → Sheetable ps → plan_sheet (plan_text ps) ≡ Ok ps
sheet_of_text ps s =
    let a = reads_plan ps s 0 in
    let h : length (plan_text ps) ≤ 4096 = omega (arith, text_short ps s) in
    cond-false (ltb 4096 (length (plan_text ps))) _ _ (le-ltb 4096 (length (plan_text ps)) h) ∙ ap closed a.1

-- The parts that are read are those that were written.
places_again : (n : ℕ) (ps qs : List (Pair ℕ)) → length ps ≡ n → length qs ≡ n → items_text place_text (assembled ps qs) ≡ items_text pair_shown ps
places_again n [] qs h k = refl
places_again n (p ∷ ps) [] h k = absurd (omega (arith, h, k))
places_again zero (p ∷ ps) (q ∷ qs) h k = absurd (omega (arith, h))
places_again (suc n) (p ∷ ps) (q ∷ qs) h k = ap (λ (z : List ℕ). 32 ∷ (pair_shown p ++ z)) (places_again n ps qs (omega arith) (omega arith))

amounts_again : (n : ℕ) (ps qs : List (Pair ℕ)) → length ps ≡ n → length qs ≡ n → items_text amounts_text (assembled ps qs) ≡ items_text pair_shown qs
amounts_again n [] [] h k = refl
amounts_again n [] (q ∷ qs) h k = absurd (omega (arith, h, k))
amounts_again n (p ∷ ps) [] h k = refl
amounts_again zero (p ∷ ps) (q ∷ qs) h k = absurd (omega (arith, h))
amounts_again (suc n) (p ∷ ps) (q ∷ qs) h k = ap (λ (z : List ℕ). 32 ∷ (pair_shown q ++ z)) (amounts_again n ps qs (omega arith) (omega arith))

writable_from : (p : Part) → p.task ≤ 31 → p.processor ≤ 7 → 1 ≤ p.cost → p.cost ≤ 100000 → 1 ≤ p.window → p.window ≤ 100000 → writable p ≡ true
writable_from p a b c d e f =
    and_from _ _ (le-leb _ _ a) (and_from _ _ (le-leb _ _ b) (and_from _ _ (and_from _ _ (le-leb _ _ c) (le-leb _ _ d)) (and_from _ _ (le-leb _ _ e) (le-leb _ _ f))))

each_writable : (n : ℕ) (ps qs : List (Pair ℕ)) → FitPairs (limits 0 31) (limits 0 7) n ps → FitPairs ticks ticks n qs
    → (i : ℕ) → i < length (assembled ps qs) → writable (get_or (assembled ps qs) i no_part) ≡ true
each_writable n [] qs f g i h = absurd (omega (arith, h))
each_writable n (p ∷ ps) [] f g i h = absurd (omega (arith, h))
each_writable zero (p ∷ ps) (q ∷ qs) f g i h = absurd f
each_writable (suc n) (p ∷ ps) (q ∷ qs) f g zero h =
    writable_from (part_of p q) f.0.0.1 f.0.1.1 g.0.0.0 g.0.0.1 g.0.1.0 g.0.1.1
each_writable (suc n) (p ∷ ps) (q ∷ qs) f g (suc i) h = each_writable n ps qs f.1 g.1 i (omega arith)

only : (l : Limits) (vs : List ℕ) → Fit (l ∷ []) vs → vs ≡ get_or vs 0 0 ∷ []
only l [] f = absurd f
only l (v ∷ []) f = refl
only l (v ∷ w ∷ vs) f = absurd f.1

-- Bytes that are read as a plan are its text.
pub plan_inv : (at : ℕ) (xs : List ℕ) (ps : List Part) (at' : ℕ) → lines_of_plan at xs ≡ got ps at' [] → Sheetable ps × (xs ≡ plan_text ps)
plan_inv at xs ps at' h =
    let a = next_both (line_of_numbers 75 0 at xs) _ ps at' [] h in
    let n = get_or a.0 0 0 in
    let b = next_both (line_of_pairs 80 n a.1 a.2) _ ps at' [] a.4 in
    let c = next_both (line_of_pairs 65 n b.1 b.2) _ ps at' [] b.4 in
    let e : assembled b.0 c.0 ≡ ps = cc c.4 in
    let e' : c.2 ≡ [] = cc c.4 in
    let k = next_both (expected 75 at xs) _ a.0 a.1 a.2 a.3 in
    let p = next_both (expected 80 a.1 a.2) _ b.0 b.1 b.2 b.3 in
    let q = next_both (expected 65 b.1 b.2) _ c.0 c.1 c.2 c.3 in
    let fp = places_fit n a.1 a.2 b.0 b.1 b.2 b.3 in
    let fq = amounts_fit n b.1 b.2 c.0 c.1 c.2 c.3 in
    let lp = fit_pairs_length (limits 0 31) (limits 0 7) n b.0 fp in
    let lq = fit_pairs_length ticks ticks n c.0 fq in
    let count = plan_count at xs ps at' [] h in
    let A : b.2 ≡ 65 ∷ items_text amounts_text (assembled b.0 c.0) =
    expected_inv 65 b.1 b.2 q.0 q.1 q.2 q.3
    ∙ ap (λ (z : List ℕ). 65 ∷ z) (pairs_inv ticks ticks n q.1 q.2 c.0 c.1 c.2 q.4 ∙ ap (λ (z : List ℕ). items_text pair_shown c.0 ++ z) e' ∙ append-nil (items_text pair_shown c.0) ∙ sym (amounts_again n b.0 c.0 lp lq)) in
    let P : a.2 ≡ 80 ∷ (items_text place_text (assembled b.0 c.0) ++ (65 ∷ items_text amounts_text (assembled b.0 c.0))) =
    expected_inv 80 a.1 a.2 p.0 p.1 p.2 p.3
    ∙ ap (λ (z : List ℕ). 80 ∷ z) (pairs_inv (limits 0 31) (limits 0 7) n p.1 p.2 b.0 b.1 b.2 p.4 ∙ ap₂ (λ (y z : List ℕ). y ++ z) (sym (places_again n b.0 c.0 lp lq)) A) in
    let K : xs ≡ plan_text (assembled b.0 c.0) =
    expected_inv 75 at xs k.0 k.1 k.2 k.3
    ∙ ap (λ (z : List ℕ). 75 ∷ z) (numbers_inv (limits 1 64 ∷ []) k.1 k.2 a.0 a.1 a.2 k.4
    ∙ ap (λ (z : List ℕ). items_text numeral z ++ a.2) (only (limits 1 64) a.0 (part_count_fits 0 at xs a.0 a.1 a.2 a.3))
    ∙ ap (λ (z : List ℕ). 32 ∷ z) (append_assoc (numeral n) (10 ∷ []) a.2 ∙ ap₂ (λ (m : ℕ) (z : List ℕ). numeral m ++ (10 ∷ z)) (sym (assembled_length n b.0 c.0 lp lq)) P)) in (
      record { some = count.0; few = count.1; each = subst (λ (z : List Part). (i : ℕ) → i < length z → writable (get_or z i no_part) ≡ true) e (each_writable n b.0 c.0 fp fq) },
      K ∙ ap plan_text e,
    )

closed_inv : {A : Type 0} (r : Read A) (x : A) → closed r ≡ Ok x → (at : ℕ) × (r ≡ got x at [])
closed_inv (got y at []) x h = (at, cc)
closed_inv (got y at (b ∷ bs)) x h = let z : ◌≡◌ {A = ℕ} 0 1 = cc in absurd (omega arith)
closed_inv (bad e) x h = let z : ◌≡◌ {A = ℕ} 0 1 = cc in absurd (omega arith)

-- A whole input that is read is not too long, and is read to its end.
pub whole_inv : {A : Type 0} (reader : ℕ → List ℕ → Read A) (bytes : List ℕ) (x : A) → whole reader bytes ≡ Ok x → (at : ℕ) × (reader 0 bytes ≡ got x at [])
whole_inv reader bytes x h =
    elim (cases_Bool (ltb 4096 (length bytes))) [
      | inl e ↦ let k : Err Overlong ≡ Ok x = rw e at h in let z : ◌≡◌ {A = ℕ} 0 1 = cc in absurd (omega arith)
      | inr e ↦ closed_inv (reader 0 bytes) x (rw e at h)
    ]

pub text_of_sheet : (bytes : List ℕ) (ps : List Part) → plan_sheet bytes ≡ Ok ps → Sheetable ps × (bytes ≡ plan_text ps)
text_of_sheet bytes ps h = let a = whole_inv lines_of_plan bytes ps h in plan_inv 0 bytes ps a.0 a.1

-- The laws.
pub sheets_are_texts : SheetsAreTexts
sheets_are_texts bytes ps = (text_of_sheet bytes ps, λ s e. ap plan_sheet e ∙ sheet_of_text ps s)

pub different_sheets : DifferentSheets
different_sheets ps qs s t e = let h : ◌≡◌ {A = Result (List Part) SheetFault} (Ok ps) (Ok qs) = sym (sheet_of_text ps s) ∙ ap plan_sheet e ∙ sheet_of_text qs t in cc

-- A plan that a sheet can hold is written wherever there is room.
pub written_ok : (ps : List Part) → Sheetable ps → (room : ℕ) → length (plan_text ps) ≤ room → written ps room ≡ Ok (length (plan_text ps))
written_ok ps s room h =
    ap (λ (o : Option ℕ). written_or o (fitted (length (plan_text ps)) room)) (sym (first_none (unwritable ps) (length ps) (λ k l. not_from_true _ (s.each k l))))
    ∙ cond-false (ltb room (length (plan_text ps))) _ _ (le-ltb room (length (plan_text ps)) h)

-- What is read is written back.
pub written_back : (bytes : List ℕ) (ps : List Part) → Ok ps ≡ plan_sheet bytes → WrittenBack ps bytes
written_back bytes ps e =
    let a = text_of_sheet bytes ps (sym e) in
    record {
      text = sym a.1;
      answer = λ room h. written_ok ps a.0 room (omega (arith, h, ap length a.1)) ∙ ap Ok (ap length (sym a.1));
    }

-- What is written is read back, whatever stands after it.
pub read_back : (ps : List Part) (text front after : List ℕ) → Sheetable ps → text ≡ plan_text ps → front ≡ text
    → plan_sheet (take (length text) (front ++ after)) ≡ Ok ps
read_back ps text front after s e f =
    ap plan_sheet (take_at front after (length text) (ap length f) ∙ f ∙ e) ∙ sheet_of_text ps s

pub read_count : (bytes : List ℕ) (ps : List Part) → Ok ps ≡ plan_sheet bytes → (1 ≤ length ps) × (length ps ≤ 64)
read_count bytes ps e = let a = text_of_sheet bytes ps (sym e) in (a.0.some, a.0.few)
