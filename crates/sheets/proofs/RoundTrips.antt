-- What is written is read back, and what is read was written so.
use Rattle.std.proofs.Common.{◌≡◌, ℕ, zero, suc, ◌+◌, ◌<◌, List, [], ◌∷◌, ◌++◌, length, replicate, sym, refl, ap, ◌∙◌, arith}
use Rattle.std.proofs.lemmas.List.{append_assoc}
use Rattle.sheet.specs.Numerals.{numeral}
use Rattle.sheet.specs.declared.symbol.Limits.{Limits}
use Rattle.sheet.specs.declared.symbol.Stop.{Stop}
use Rattle.sheet.specs.declared.symbol.Stop.TheVariants.{Slash}
use Rattle.sheet.specs.Reading.{Read, got, next, expected, number, stop_byte}
use Rattle.sheet.proofs.Numerals.{expects, expected_inv, reads_number, number_inv}
use Rattle.sheet.proofs.Scale.{next_both}
use Rattle.sheets.specs.declared.lines.Pair.{Pair}
use Rattle.sheets.specs.Grammar.{items, numbers, pair_within, pairs, next_stop}
use Rattle.sheets.specs.Texts.{pair_shown, items_text}
use Rattle.sheets.proofs.Bounds.{Within, PairWithin, FitAll, Fit, FitPairs}
use Rattle.sheets.proofs.Items.{next_got}

-- What is so of each in a list.
abbrev pub Each : {W : Type 0} → (W → Type 0) → List W → Type 0
Each P [] = Unit {0}
Each P (w ∷ ws) = P w × Each P ws

pub each_same : {W : Type 0} (P : W → Type 0) (n : ℕ) (w : W) → P w → Each P (replicate n w)
each_same P zero w h = tt
each_same P (suc n) w h = (h, each_same P n w h)

module _ {W A : Type 0} (item : W → Stop → ℕ → List ℕ → Read A) (fits : W → A → Type 0) (small : W → Type 0) (shown : A → List ℕ) where
  -- After an item stands what has to.
  items_start : (ws : List W) (vs : List A) (rest : List ℕ) → FitAll fits ws vs
      → (tail : List ℕ) × (items_text shown vs ++ rest ≡ stop_byte (next_stop (length ws)) ∷ tail)
  items_start [] [] rest f = (rest, refl)
  items_start [] (v ∷ vs) rest f = absurd f
  items_start (w ∷ ws) [] rest f = absurd f
  items_start (w ∷ ws) (v ∷ vs) rest f = ((shown v ++ items_text shown vs) ++ rest, refl)

  -- Items that are written are read, where each is.
  reads_items : ((w : W) (s : Stop) (v : A) → fits w v → small w → (at : ℕ) (rest : List ℕ)
      → (at' : ℕ) × (item w s at (shown v ++ (stop_byte s ∷ rest)) ≡ got v at' (stop_byte s ∷ rest)))
      → (ws : List W) (vs : List A) → FitAll fits ws vs → Each small ws → (at : ℕ) (rest : List ℕ)
      → (at' : ℕ) × (items item ws at (items_text shown vs ++ rest) ≡ got vs at' rest)
  reads_items one [] [] f x at rest = (at + 1, next_got (expected 10 at (10 ∷ rest)) (λ _ at xs. got [] at xs) tt (at + 1) rest (expects 10 at rest))
  reads_items one [] (v ∷ vs) f x at rest = absurd f
  reads_items one (w ∷ ws) [] f x at rest = absurd f
  reads_items one (w ∷ ws) (v ∷ vs) f x at rest =
      let t = items_start ws vs rest f.1 in
      let s = next_stop (length ws) in
      let n = one w s v f.0 x.0 (at + 1) t.0 in
      let m = reads_items one ws vs f.1 x.1 n.0 rest in (
        m.0,
        next_got (expected 32 at (32 ∷ ((shown v ++ items_text shown vs) ++ rest)))
            (λ _ at xs. next (item w s at xs) (λ v at xs. next (items item ws at xs) (λ vs at xs. got (v ∷ vs) at xs))) tt (at + 1) ((shown v ++ items_text shown vs) ++ rest) (expects 32 at _)
            ∙ next_got (item w s (at + 1) ((shown v ++ items_text shown vs) ++ rest))
            (λ v at xs. next (items item ws at xs) (λ vs at xs. got (v ∷ vs) at xs)) v n.0 (items_text shown vs ++ rest)
            (ap (item w s (at + 1)) (append_assoc (shown v) (items_text shown vs) rest ∙ ap (λ (z : List ℕ). shown v ++ z) t.1)
            ∙ n.1 ∙ ap (got v n.0) (sym t.1))
            ∙ next_got (items item ws n.0 (items_text shown vs ++ rest)) (λ vs at xs. got (v ∷ vs) at xs) vs m.0 rest m.1,
      )

  -- Items that are read were written so, where each was.
  items_inv : ((w : W) (s : Stop) (at : ℕ) (xs : List ℕ) (v : A) (at' : ℕ) (xs' : List ℕ) → item w s at xs ≡ got v at' xs' → xs ≡ shown v ++ xs')
      → (ws : List W) (at : ℕ) (xs : List ℕ) (vs : List A) (at' : ℕ) (xs' : List ℕ) → items item ws at xs ≡ got vs at' xs' → xs ≡ items_text shown vs ++ xs'
  items_inv one [] at xs vs at' xs' h =
      let p = next_both (expected 10 at xs) _ vs at' xs' h in
      let e : [] ≡ vs = cc p.4 in
      let f : p.2 ≡ xs' = cc p.4 in
      expected_inv 10 at xs p.0 p.1 p.2 p.3 ∙ ap (λ (z : List ℕ). 10 ∷ z) f ∙ ap (λ (z : List A). items_text shown z ++ xs') e
  items_inv one (w ∷ ws) at xs vs at' xs' h =
      let p = next_both (expected 32 at xs) _ vs at' xs' h in
      let q = next_both (item w (next_stop (length ws)) p.1 p.2) _ vs at' xs' p.4 in
      let r = next_both (items item ws q.1 q.2) _ vs at' xs' q.4 in
      let e : (q.0 ∷ r.0) ≡ vs = cc r.4 in
      let f : r.2 ≡ xs' = cc r.4 in
      expected_inv 32 at xs p.0 p.1 p.2 p.3
      ∙ ap (λ (z : List ℕ). 32 ∷ z) (one w (next_stop (length ws)) p.1 p.2 q.0 q.1 q.2 q.3
      ∙ ap (λ (z : List ℕ). shown q.0 ++ z) (items_inv one ws q.1 q.2 r.0 r.1 r.2 r.3 ∙ ap (λ (z : List ℕ). items_text shown r.0 ++ z) f)
      ∙ sym (append_assoc (shown q.0) (items_text shown r.0) xs'))
      ∙ ap (λ (z : List A). items_text shown z ++ xs') e

-- Limits of at most six digits.
abbrev pub Small : Limits → Type 0
Small l = l.most < 1000000

abbrev pub Six : List Limits → Type 0
Six = Each Small

-- Numbers that are written are read, and numbers that are read were written so.
pub reads_numbers : (ls : List Limits) (vs : List ℕ) → Fit ls vs → Six ls → (at : ℕ) (rest : List ℕ)
    → (at' : ℕ) × (numbers ls at (items_text numeral vs ++ rest) ≡ got vs at' rest)
reads_numbers =
    reads_items number Within Small numeral (λ l s v f x at rest. reads_number l s v at rest (omega (arith, f.1, x)) f.0 f.1)

pub numbers_inv : (ls : List Limits) (at : ℕ) (xs vs : List ℕ) (at' : ℕ) (xs' : List ℕ) → numbers ls at xs ≡ got vs at' xs' → xs ≡ items_text numeral vs ++ xs'
numbers_inv = items_inv number Within Small numeral (λ l s at xs v at' xs' h. (number_inv l s at xs v at' xs' h).0)

pair_apart : (p : Pair ℕ) (rest : List ℕ) → pair_shown p ++ rest ≡ numeral p.left ++ (47 ∷ (numeral p.right ++ rest))
pair_apart p rest = append_assoc (numeral p.left) (47 ∷ numeral p.right) rest

abbrev SmallPair : Pair Limits → Type 0
SmallPair w = Small w.left × Small w.right

reads_pair : (w : Pair Limits) (s : Stop) (p : Pair ℕ) → PairWithin w p → SmallPair w → (at : ℕ) (rest : List ℕ)
    → (at' : ℕ) × (pair_within w s at (pair_shown p ++ (stop_byte s ∷ rest)) ≡ got p at' (stop_byte s ∷ rest))
reads_pair w s p f x at rest =
    let a = reads_number w.left Slash p.left at (numeral p.right ++ (stop_byte s ∷ rest)) (omega (arith, f.0.1, x.0)) f.0.0 f.0.1 in
    let b = reads_number w.right s p.right (a.0 + 1) rest (omega (arith, f.1.1, x.1)) f.1.0 f.1.1 in (
      b.0,
      ap (pair_within w s at) (pair_apart p (stop_byte s ∷ rest))
          ∙ next_got (number w.left Slash at (numeral p.left ++ (47 ∷ (numeral p.right ++ (stop_byte s ∷ rest)))))
          (λ v at xs. next (expected 47 at xs) (λ _ at xs. next (number w.right s at xs) (λ w at xs. got (record { left = v; right = w }) at xs))) p.left a.0 (47 ∷ (numeral p.right ++ (stop_byte s ∷ rest))) a.1
          ∙ next_got (expected 47 a.0 (47 ∷ (numeral p.right ++ (stop_byte s ∷ rest))))
          (λ _ at xs. next (number w.right s at xs) (λ w at xs. got (record { left = p.left; right = w }) at xs)) tt (a.0 + 1) (numeral p.right ++ (stop_byte s ∷ rest)) (expects 47 a.0 (numeral p.right ++ (stop_byte s ∷ rest)))
          ∙ next_got (number w.right s (a.0 + 1) (numeral p.right ++ (stop_byte s ∷ rest))) (λ w at xs. got (record { left = p.left; right = w }) at xs) p.right b.0 (stop_byte s ∷ rest) b.1,
    )

pair_inv : (w : Pair Limits) (s : Stop) (at : ℕ) (xs : List ℕ) (p : Pair ℕ) (at' : ℕ) (xs' : List ℕ) → pair_within w s at xs ≡ got p at' xs' → xs ≡ pair_shown p ++ xs'
pair_inv w s at xs p at' xs' h =
    let a = next_both (number w.left Slash at xs) _ p at' xs' h in
    let b = next_both (expected 47 a.1 a.2) _ p at' xs' a.4 in
    let c = next_both (number w.right s b.1 b.2) _ p at' xs' b.4 in
    let e : record { left = a.0; right = c.0 } ≡ p = cc c.4 in
    let f : c.2 ≡ xs' = cc c.4 in
    let n = number_inv w.left Slash at xs a.0 a.1 a.2 a.3 in
    let m = number_inv w.right s b.1 b.2 c.0 c.1 c.2 c.3 in
    n.0 ∙ ap (λ (z : List ℕ). numeral a.0 ++ z) (expected_inv 47 a.1 a.2 b.0 b.1 b.2 b.3 ∙ ap (λ (z : List ℕ). 47 ∷ z) (m.0 ∙ ap (λ (z : List ℕ). numeral c.0 ++ z) f))
    ∙ sym (pair_apart (record { left = a.0; right = c.0 }) xs') ∙ ap (λ (q : Pair ℕ). pair_shown q ++ xs') e

-- The same of pairs.
pub reads_pairs : (l r : Limits) → l.most < 1000000 → r.most < 1000000 → (n : ℕ) (ps : List (Pair ℕ)) → FitPairs l r n ps → (at : ℕ) (rest : List ℕ)
    → (at' : ℕ) × (pairs l r n at (items_text pair_shown ps ++ rest) ≡ got ps at' rest)
reads_pairs l r x y n ps f =
    reads_items pair_within PairWithin SmallPair pair_shown reads_pair (replicate n (record { left = l; right = r })) ps f
    (each_same SmallPair n (record { left = l; right = r }) (x, y))

pub pairs_inv : (l r : Limits) (n at : ℕ) (xs : List ℕ) (ps : List (Pair ℕ)) (at' : ℕ) (xs' : List ℕ) → pairs l r n at xs ≡ got ps at' xs' → xs ≡ items_text pair_shown ps ++ xs'
pairs_inv l r n = items_inv pair_within PairWithin SmallPair pair_shown pair_inv (replicate n (record { left = l; right = r }))
