-- The task sheets are exactly the texts of tasks, and both sheets are one text after the other.
use Rattle.std.proofs.Common.{◌≡◌, ℕ, zero, suc, ◌+◌, ◌*◌, ◌<◌, ◌≤◌, true, ltb, leb, List, [], ◌∷◌, ◌++◌, length, get_or, replicate, Ok, Err, Result, sym, refl, ap, ◌∙◌, subst, ap₂, arith}
use Rattle.std.proofs.lemmas.List.{append_assoc, append-nil, length-append}
use Rattle.std.proofs.lemmas.Bool.{le-ltb, cond-false, and_from, and_parts, le-leb, leb-true}
use Rattle.schedule.specs.declared.Part.{Part}
use Rattle.sheet.specs.declared.symbol.Limits.{Limits}
use Rattle.sheet.specs.Numerals.{numeral}
use Rattle.sheet.specs.Reading.{got, next, expected}
use Rattle.sheet.proofs.Numerals.{expects, expected_inv, numeral_short}
use Rattle.sheet.proofs.Scale.{next_both}
use Rattle.parts.specs.Parts.{PartList, parts_of}
use Rattle.sheet.specs.declared.fault.SheetFault.{SheetFault}
use Rattle.sheets.specs.declared.TaskSheet.{TaskSheet}
use Rattle.sheets.specs.Answers.{ReadParts}
use Rattle.sheets.specs.Grammar.{Tasks, limits, ticks, numbers, line_of_numbers, lines_of_tasks, task_sheet, lines_of_plan, both_lines, sheet_pair, closed}
use Rattle.sheets.specs.Laws.{Sheetable, TaskSheetable, TaskSheetsAreTexts, BothAreTexts}
use Rattle.sheets.specs.Texts.{items_text, task_text, plan_text}
use Rattle.tasks.specs.Sets.{on_scale}
use Rattle.sheets.proofs.Bounds.{Fit, numbers_fit}
use Rattle.sheets.proofs.Items.{next_got}
use Rattle.sheets.proofs.PlanSheets.{reads_plan, plan_inv, text_short, whole_inv}
use Rattle.sheets.proofs.RoundTrips.{Six, reads_numbers, numbers_inv}

-- Ticks on a sheet, as limits and as a test.
fit_ticks : (n : ℕ) (vs : List ℕ) → length vs ≡ n → ((i : ℕ) → i < length vs → on_scale (get_or vs i 0) ≡ true) → Fit (replicate n ticks) vs
fit_ticks zero [] h w = tt
fit_ticks zero (v ∷ vs) h w = absurd (omega (arith, h))
fit_ticks (suc n) [] h w = absurd (omega (arith, h))
fit_ticks (suc n) (v ∷ vs) h w =
    let p = and_parts (leb 1 v) (leb v 100000) (w 0 (omega arith)) in
    ((leb-true 1 v p.0, leb-true v 100000 p.1), fit_ticks n vs (omega arith) (λ i l. w (suc i) (omega arith)))

ticks_fit : (n : ℕ) (vs : List ℕ) → Fit (replicate n ticks) vs → (length vs ≡ n) × ((i : ℕ) → i < length vs → on_scale (get_or vs i 0) ≡ true)
ticks_fit zero [] f = (refl, λ i l. absurd (omega (arith, l)))
ticks_fit zero (v ∷ vs) f = absurd f
ticks_fit (suc n) [] f = absurd f
ticks_fit (suc n) (v ∷ vs) f = let r = ticks_fit n vs f.1 in (ap suc r.0, each r.1)
  where
    each : ((i : ℕ) → i < length vs → on_scale (get_or vs i 0) ≡ true) → (i : ℕ) → i < length (v ∷ vs) → on_scale (get_or (v ∷ vs) i 0) ≡ true
    each r zero l = and_from _ _ (le-leb 1 v f.0.0) (le-leb v 100000 f.0.1)
    each r (suc i) l = r i (omega arith)

six_ticks : (n : ℕ) → Six (replicate n ticks)
six_ticks zero = tt
six_ticks (suc n) = (omega arith, six_ticks n)

-- A line of numbers that is written is read.
reads_line : (letter n : ℕ) (ls : List Limits) (vs : List ℕ) (at : ℕ) (rest : List ℕ)
    → ((at : ℕ) (xs : List ℕ) → line_of_numbers letter n at xs ≡ next (expected letter at xs) (λ _ at xs. numbers ls at xs))
    → Fit ls vs → Six ls → (at' : ℕ) × (line_of_numbers letter n at (letter ∷ (items_text numeral vs ++ rest)) ≡ got vs at' rest)
reads_line letter n ls vs at rest line f x =
    let a = reads_numbers ls vs f x (at + 1) rest in (
      a.0,
      line at (letter ∷ (items_text numeral vs ++ rest))
          ∙ next_got (expected letter at (letter ∷ (items_text numeral vs ++ rest))) (λ _ at xs. numbers ls at xs) tt (at + 1) (items_text numeral vs ++ rest) (expects letter at _) ∙ a.1,
    )

reads_tasks : (t : Tasks) → TaskSheetable t → (at : ℕ) (rest : List ℕ) → (at' : ℕ) × (lines_of_tasks at (task_text t ++ rest) ≡ got t at' rest)
reads_tasks t s at rest =
    let n = length t.periods in
    let C = 67 ∷ (items_text numeral t.costs ++ rest) in
    let P = 80 ∷ (items_text numeral t.periods ++ C) in
    let a = reads_line 84 0 (limits 1 32 ∷ limits 1 8 ∷ []) (n ∷ t.processors ∷ []) at P (λ at xs. refl) ((s.some, s.few), ((s.a_processor, s.eight), tt)) (omega arith, (omega arith, tt)) in
    let b = reads_line 80 n (replicate n ticks) t.periods a.0 C (λ at xs. refl) (fit_ticks n t.periods refl s.periods) (six_ticks n) in
    let c = reads_line 67 n (replicate n ticks) t.costs b.0 rest (λ at xs. refl) (fit_ticks n t.costs s.as_many s.costs) (six_ticks n) in
    let apart : task_text t ++ rest ≡ 84 ∷ (items_text numeral (n ∷ t.processors ∷ []) ++ P) =
    ap (λ (z : List ℕ). 84 ∷ z) (append_assoc (items_text numeral (n ∷ t.processors ∷ [])) (80 ∷ (items_text numeral t.periods ++ (67 ∷ items_text numeral t.costs))) rest
    ∙ ap (λ (z : List ℕ). items_text numeral (n ∷ t.processors ∷ []) ++ (80 ∷ z)) (append_assoc (items_text numeral t.periods) (67 ∷ items_text numeral t.costs) rest)) in (
      c.0,
      ap (lines_of_tasks at) apart
          ∙ next_got (line_of_numbers 84 0 at (84 ∷ (items_text numeral (n ∷ t.processors ∷ []) ++ P)))
          (λ counts at xs. next (line_of_numbers 80 (get_or counts 0 0) at xs) (λ periods at xs. next (line_of_numbers 67 (get_or counts 0 0) at xs) (λ costs at xs.
          got (record { processors = get_or counts 1 0; periods = periods; costs = costs }) at xs)))
          (n ∷ t.processors ∷ []) a.0 P a.1
          ∙ next_got (line_of_numbers 80 n a.0 P) (λ periods at xs. next (line_of_numbers 67 n at xs) (λ costs at xs. got (record { processors = t.processors; periods = periods; costs = costs }) at xs))
          t.periods b.0 C b.1
          ∙ next_got (line_of_numbers 67 n b.0 C) (λ costs at xs. got (record { processors = t.processors; periods = t.periods; costs = costs }) at xs) t.costs c.0 rest c.1,
    )

-- A line of numbers that is read was written so.
line_inv : (letter n : ℕ) (ls : List Limits) (at : ℕ) (xs vs : List ℕ) (at' : ℕ) (xs' : List ℕ)
    → line_of_numbers letter n at xs ≡ next (expected letter at xs) (λ _ at xs. numbers ls at xs)
    → line_of_numbers letter n at xs ≡ got vs at' xs' → (xs ≡ letter ∷ (items_text numeral vs ++ xs')) × Fit ls vs
line_inv letter n ls at xs vs at' xs' line h =
    let a = next_both (expected letter at xs) (λ _ at xs. numbers ls at xs) vs at' xs' (sym line ∙ h) in (
      expected_inv letter at xs a.0 a.1 a.2 a.3 ∙ ap (λ (z : List ℕ). letter ∷ z) (numbers_inv ls a.1 a.2 vs at' xs' a.4),
      numbers_fit ls a.1 a.2 vs at' xs' a.4,
    )

two : (l r : Limits) (vs : List ℕ) → Fit (l ∷ r ∷ []) vs → (vs ≡ get_or vs 0 0 ∷ get_or vs 1 0 ∷ []) × (l.least ≤ get_or vs 0 0) × (get_or vs 0 0 ≤ l.most) × (r.least ≤ get_or vs 1 0) × (get_or vs 1 0 ≤ r.most)
two l r [] f = absurd f
two l r (v ∷ []) f = absurd f.1
two l r (v ∷ w ∷ []) f = (refl, f.0.0, f.0.1, f.1.0.0, f.1.0.1)
two l r (v ∷ w ∷ u ∷ vs) f = absurd f.1.1

pub tasks_inv : (at : ℕ) (xs : List ℕ) (t : Tasks) (at' : ℕ) (xs' : List ℕ) → lines_of_tasks at xs ≡ got t at' xs' → TaskSheetable t × (xs ≡ task_text t ++ xs')
tasks_inv at xs t at' xs' h =
    let a = next_both (line_of_numbers 84 0 at xs) _ t at' xs' h in
    let n = get_or a.0 0 0 in
    let m = get_or a.0 1 0 in
    let b = next_both (line_of_numbers 80 n a.1 a.2) _ t at' xs' a.4 in
    let c = next_both (line_of_numbers 67 n b.1 b.2) _ t at' xs' b.4 in
    let e : record { processors = m; periods = b.0; costs = c.0 } ≡ t = cc c.4 in
    let e' : c.2 ≡ xs' = cc c.4 in
    let T = line_inv 84 0 (limits 1 32 ∷ limits 1 8 ∷ []) at xs a.0 a.1 a.2 refl a.3 in
    let P = line_inv 80 n (replicate n ticks) a.1 a.2 b.0 b.1 b.2 refl b.3 in
    let C = line_inv 67 n (replicate n ticks) b.1 b.2 c.0 c.1 c.2 refl c.3 in
    let w = two (limits 1 32) (limits 1 8) a.0 T.1 in
    let p = ticks_fit n b.0 P.1 in
    let q = ticks_fit n c.0 C.1 in
    let r : Tasks = record { processors = m; periods = b.0; costs = c.0 } in
    let s : TaskSheetable r =
    record { some = omega (arith, p.0, w.1); few = omega (arith, p.0, w.2); as_many = q.0 ∙ sym p.0; a_processor = w.3; eight = w.4; periods = p.1; costs = q.1 } in
    let C' : b.2 ≡ 67 ∷ (items_text numeral c.0 ++ xs') = C.0 ∙ ap (λ (z : List ℕ). 67 ∷ (items_text numeral c.0 ++ z)) e' in
    let P' : a.2 ≡ (80 ∷ (items_text numeral b.0 ++ (67 ∷ items_text numeral c.0))) ++ xs' =
    P.0 ∙ ap (λ (z : List ℕ). 80 ∷ (items_text numeral b.0 ++ z)) C'
    ∙ ap (λ (z : List ℕ). 80 ∷ z) (sym (append_assoc (items_text numeral b.0) (67 ∷ items_text numeral c.0) xs')) in
    let all : xs ≡ task_text r ++ xs' =
    T.0
    ∙ ap₂ (λ (vs z : List ℕ). 84 ∷ (items_text numeral vs ++ z)) (w.0 ∙ ap (λ (k : ℕ). k ∷ m ∷ []) (sym p.0)) P'
    ∙ ap (λ (z : List ℕ). 84 ∷ z) (sym (append_assoc (items_text numeral (length b.0 ∷ m ∷ [])) (80 ∷ (items_text numeral b.0 ++ (67 ∷ items_text numeral c.0))) xs')) in
    subst (λ (t : Tasks). TaskSheetable t × (xs ≡ task_text t ++ xs')) e (s, all)

-- A task sheet's text is short enough to be read.
line_short : (vs : List ℕ) → ((i : ℕ) → i < length vs → on_scale (get_or vs i 0) ≡ true) → length (items_text numeral vs) ≤ 7 * length vs + 1
line_short [] w = omega arith
line_short (v ∷ vs) w =
    let p = and_parts (leb 1 v) (leb v 100000) (w 0 (omega arith)) in
    let h : v ≤ 100000 = leb-true v 100000 p.1 in
    omega (arith, length-append (numeral v) (items_text numeral vs), numeral_short 6 v (omega arith) (omega arith) (omega arith), line_short vs (λ i l. w (suc i) (omega arith)))

task_text_short : (t : Tasks) → TaskSheetable t → length (task_text t) ≤ 464
task_text_short t s =
    let n = length t.periods in
    let P = items_text numeral t.periods in
    let C = items_text numeral t.costs in
    let a : n < 1000000 = omega (arith, s.few) in
    let b : t.processors < 1000000 = omega (arith, s.eight) in
    omega (
      arith,
      s.few,
      s.as_many,
      line_short t.periods s.periods,
      line_short t.costs s.costs,
      length-append P (67 ∷ C),
      length-append (items_text numeral (n ∷ t.processors ∷ [])) (80 ∷ (P ++ (67 ∷ C))),
      length-append (numeral n) (32 ∷ (numeral t.processors ++ (10 ∷ []))),
      length-append (numeral t.processors) (10 ∷ []),
      numeral_short 2 n (omega arith) (omega (arith, s.few)) a,
      numeral_short 1 t.processors (omega arith) (omega (arith, s.eight)) b,
    )

pub task_sheets_are_texts : TaskSheetsAreTexts
task_sheets_are_texts bytes t = (
  (λ h. let a = whole_inv lines_of_tasks bytes t h in let r = tasks_inv 0 bytes t a.0 [] a.1 in (r.0, r.1 ∙ append-nil (task_text t))),
  λ s e. ap task_sheet e ∙ of_text s,
)
  where
    of_text : TaskSheetable t → task_sheet (task_text t) ≡ Ok t
    of_text s =
        let a = reads_tasks t s 0 [] in
        let h : length (task_text t) ≤ 4096 = omega (arith, task_text_short t s) in
        cond-false (ltb 4096 (length (task_text t))) _ _ (le-ltb 4096 (length (task_text t)) h)
        ∙ ap (λ (z : List ℕ). closed (lines_of_tasks 0 z)) (sym (append-nil (task_text t))) ∙ ap closed a.1

pub both_are_texts : BothAreTexts
both_are_texts bytes t ps = (
  (λ h.
      let w = whole_inv both_lines bytes (t, ps) h in
      let a = next_both (lines_of_tasks 0 bytes) _ (t, ps) w.0 [] w.1 in
      let b = next_both (lines_of_plan a.1 a.2) _ (t, ps) w.0 [] a.4 in
      let e : ◌≡◌ {A = Tasks × List Part} (a.0, b.0) (t, ps) = cc b.4 in
      let f : b.2 ≡ [] = cc b.4 in
      let r = tasks_inv 0 bytes a.0 a.1 a.2 a.3 in
      let q = plan_inv a.1 a.2 b.0 b.1 (subst (λ (z : List ℕ). lines_of_plan a.1 a.2 ≡ got b.0 b.1 z) f b.3) in
      subst (λ (z : Tasks × List Part). TaskSheetable z.0 × Sheetable z.1 × (bytes ≡ task_text z.0 ++ plan_text z.1)) e
      (r.0, q.0, r.1 ∙ ap (λ (z : List ℕ). task_text a.0 ++ z) q.1)),
  λ s p e. ap sheet_pair e ∙ of_texts s p,
)
  where
    of_texts : TaskSheetable t → Sheetable ps → sheet_pair (task_text t ++ plan_text ps) ≡ Ok (t, ps)
    of_texts s p =
        let a = reads_tasks t s 0 (plan_text ps) in
        let b = reads_plan ps p a.0 in
        let h : length (task_text t ++ plan_text ps) ≤ 4096 = omega (arith, length-append (task_text t) (plan_text ps), task_text_short t s, text_short ps p) in
        cond-false (ltb 4096 (length (task_text t ++ plan_text ps))) _ _ (le-ltb 4096 (length (task_text t ++ plan_text ps)) h)
        ∙ ap closed (next_got (lines_of_tasks 0 (task_text t ++ plan_text ps)) (λ tasks at xs. next (lines_of_plan at xs) (λ parts at xs. got (tasks, parts) at xs)) t a.0 (plan_text ps) a.1
        ∙ next_got (lines_of_plan a.0 (plan_text ps)) (λ parts at xs. got (t, parts) at xs) ps b.0 [] b.1)

-- Both sheets that are read hold 1 to 64 parts.
pub both_count : (bytes : List ℕ) (b : TaskSheet × PartList) → ReadParts (sheet_pair bytes) (Ok b) → (1 ≤ length (parts_of b.1)) × (length (parts_of b.1) ≤ 64)
both_count bytes b h = counted (sheet_pair bytes) refl h
  where
    counted : (R : Result (Tasks × List Part) SheetFault) → sheet_pair bytes ≡ R → ReadParts R (Ok b) → (1 ≤ length (parts_of b.1)) × (length (parts_of b.1) ≤ 64)
    counted (Ok r) e h =
        let s = (both_are_texts bytes r.0 r.1).0 e in
        subst (λ (ps : List Part). (1 ≤ length ps) × (length ps ≤ 64)) (sym h.1) (s.1.some, s.1.few)
    counted (Err f) e h = let z : ◌≡◌ {A = ℕ} 0 1 = cc in absurd (omega arith)
