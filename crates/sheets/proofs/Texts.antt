-- A text that grows, and how long it gets.
use Rattle.std.proofs.Common.{◌≡◌, ℕ, zero, suc, ◌+◌, ◌*◌, ◌/◌, ◌%◌, ◌^◌, ◌<◌, ◌≤◌, true, Bool, not, cond, leb, List, [], ◌∷◌, ◌++◌, length, get_or, take, decimal, Some, Option, sym, refl, ap, ap₂, ◌∙◌, arith}
use Rattle.std.proofs.lemmas.List.{length-append, append_assoc, append-nil, take_all}
use Rattle.std.proofs.lemmas.Fmt.{decimal_digit, decimal_step}
use Rattle.std.specs.List.{position, position_from}
use Rattle.std.proofs.lemmas.Iterator.Adapters.{position_from-zero}
use Rattle.tasks.specs.Searches.{first_from, first_where}
use Rattle.sheet.proofs.Numerals.{numeral_decimal, numeral_short}
use Rattle.std.proofs.lemmas.Bool.{and_parts, leb-true}
use Rattle.sheet.specs.Numerals.{numeral}
use Rattle.schedule.specs.declared.Part.{Part}
use Rattle.sheets.specs.declared.text.Line.{Line}
use Rattle.sheets.specs.declared.text.Line.TheVariants.{Places, Amounts}
use Rattle.sheets.specs.Texts.{pair_shown, pair_of, letter_of, pair_text, place_text, amounts_text, items_text, listed, count_text, line_text, writable, unwritable, no_part}
use Rattle.tasks.specs.Sets.{on_scale}

-- How long a text is after an addition.
pub grown : (new old more : List ℕ) → new ≡ old ++ more → length new ≡ length old + length more
grown new old more e = ap length e ∙ length-append old more

-- A text with a number more: the digits before its last, and the last.
pub decimal_one : (n : ℕ) → n < 10 → length (decimal n) ≡ 1
decimal_one n h = ap length (decimal_digit n h)

pub decimal_longer : (n : ℕ) → 10 ≤ n → n < 2 ^ 64 → length (decimal n) ≡ length (decimal (n / 10)) + 1
decimal_longer n h k = ap length (decimal_step n h k) ∙ length-append (decimal (n / 10)) ((48 + n % 10) ∷ [])

pub by_digits : (t₀ t₁ t₂ : List ℕ) (n : ℕ) → 10 ≤ n → n < 2 ^ 64 → t₁ ≡ t₀ ++ decimal (n / 10) → t₂ ≡ t₁ ++ ((48 + n % 10) ∷ []) → t₂ ≡ t₀ ++ decimal n
by_digits t₀ t₁ t₂ n h k e₁ e₂ = rw (e₂, e₁, decimal_step n h k) (simp append_assoc)

pub by_digit : (t₀ t₁ t₂ : List ℕ) (n : ℕ) → n < 10 → t₁ ≡ t₀ → t₂ ≡ t₁ ++ ((48 + n % 10) ∷ []) → t₂ ≡ t₀ ++ decimal n
by_digit t₀ t₁ t₂ n h e₁ e₂ = let d : n % 10 ≡ n = omega arith in rw (e₂, e₁, decimal_digit n h, d) refl

pub pair_length : (l r : ℕ) → length (pair_text l r) ≡ length (numeral l) + (1 + length (numeral r))
pair_length l r = length-append (numeral l) (47 ∷ numeral r) ∙ omega arith

-- A text with a pair more, whose numbers were printed.
pub pair_printed : (l r : ℕ) → l < 1000000 → r < 1000000 → length (pair_text l r) ≡ length (decimal l) + (1 + length (decimal r))
pair_printed l r h k = omega (arith, pair_length l r, ap length (numeral_decimal l h), ap length (numeral_decimal r k))

pub by_pair : (t₀ t₁ t₂ t₃ t₄ : List ℕ) (l r : ℕ) → l < 1000000 → r < 1000000 → t₁ ≡ t₀ ++ (32 ∷ []) → t₂ ≡ t₁ ++ decimal l → t₃ ≡ t₂ ++ (47 ∷ []) → t₄ ≡ t₃ ++ decimal r
    → t₄ ≡ t₀ ++ (32 ∷ pair_text l r)
by_pair t₀ t₁ t₂ t₃ t₄ l r h k e₁ e₂ e₃ e₄ = rw (e₄, e₃, e₂, e₁, numeral_decimal l h, numeral_decimal r k) (simp append_assoc)

-- A text with the line of the count more.
pub count_printed : (n : ℕ) → n ≤ 64 → length (count_text n) ≡ 3 + length (decimal n)
count_printed n h = omega (arith, length-append (numeral n) (10 ∷ []), ap length (numeral_decimal n (omega arith)))

pub by_count : (t₀ t₁ t₂ t₃ t₄ : List ℕ) (n : ℕ) → n ≤ 64 → t₁ ≡ t₀ ++ (75 ∷ []) → t₂ ≡ t₁ ++ (32 ∷ []) → t₃ ≡ t₂ ++ decimal n → t₄ ≡ t₃ ++ (10 ∷ [])
    → t₄ ≡ t₀ ++ count_text n
by_count t₀ t₁ t₂ t₃ t₄ n h e₁ e₂ e₃ e₄ = let k : n < 1000000 = omega arith in rw (e₄, e₃, e₂, e₁, numeral_decimal n k) (simp append_assoc)

pub count_length : (n : ℕ) → n ≤ 64 → length (numeral n) ≤ 2
count_length n h = numeral_short 2 n (omega arith) (omega arith) (omega arith)

-- What a part that a sheet can hold is made of.
pub record Small (p : Part) : Type 0 where
  pub task : p.task ≤ 31
  pub processor : p.processor ≤ 7
  pub cost : p.cost ≤ 100000
  pub window : p.window ≤ 100000
  pub cost_some : 1 ≤ p.cost
  pub window_some : 1 ≤ p.window

pub small : (p : Part) → writable p ≡ true → Small p
small p e =
    let a = and_parts (leb p.task 31) _ e in
    let b = and_parts (leb p.processor 7) _ a.1 in
    let c = and_parts (on_scale p.cost) _ b.1 in
    let d = and_parts (leb 1 p.cost) _ c.0 in
    let f = and_parts (leb 1 p.window) _ c.1 in
    record { task = leb-true _ _ a.0; processor = leb-true _ _ b.0; cost = leb-true _ _ d.1; window = leb-true _ _ f.1; cost_some = leb-true _ _ d.0; window_some = leb-true _ _ f.0 }

length_place : (p : Part) → Small p → length (place_text p) ≤ 4
length_place p s =
    omega (arith, pair_length p.task p.processor, numeral_short 2 p.task (omega arith) (omega arith) (omega arith), numeral_short 1 p.processor (omega arith) (omega arith) (omega arith))

length_amounts : (p : Part) → Small p → length (amounts_text p) ≤ 13
length_amounts p s =
    omega (arith, pair_length p.cost p.window, numeral_short 6 p.cost (omega arith) (omega arith) (omega arith), numeral_short 6 p.window (omega arith) (omega arith) (omega arith))

-- One item more.
pub listed_more : (f : Part → List ℕ) (ps : List Part) (i : ℕ) → i < length ps → listed f (take (i + 1) ps) ≡ listed f (take i ps) ++ (32 ∷ f (get_or ps i no_part))
listed_more f [] i h = absurd (omega (arith, h))
listed_more f (p ∷ ps) zero h = ap (λ (l : List ℕ). 32 ∷ l) (append-nil (f p))
listed_more f (p ∷ ps) (suc i) h =
    let e : suc i + 1 ≡ suc (i + 1) = omega arith in
    ap (λ (n : ℕ). listed f (take n (p ∷ ps))) e
    ∙ ap (λ (l : List ℕ). 32 ∷ (f p ++ l)) (listed_more f ps i (omega arith))
    ∙ ap (λ (l : List ℕ). 32 ∷ l) (sym (append_assoc (f p) (listed f (take i ps)) (32 ∷ f (get_or ps i no_part))))

items_listed : (f : Part → List ℕ) (ps : List Part) → items_text f ps ≡ listed f ps ++ (10 ∷ [])
items_listed f [] = refl
items_listed f (p ∷ ps) = ap (λ (l : List ℕ). 32 ∷ (f p ++ l)) (items_listed f ps) ∙ ap (λ (l : List ℕ). 32 ∷ l) (sym (append_assoc (f p) (listed f ps) (10 ∷ [])))

-- A line after one item more, and at its end.
pub line_more : (f : Part → List ℕ) (ps : List Part) (i : ℕ) (base t t' : List ℕ) → i < length ps → t ≡ base ++ listed f (take i ps)
    → t' ≡ t ++ (32 ∷ f (get_or ps i no_part)) → t' ≡ base ++ listed f (take (i + 1) ps)
line_more f ps i base t t' h e e' =
    e' ∙ ap (λ (l : List ℕ). l ++ (32 ∷ f (get_or ps i no_part))) e ∙ append_assoc base (listed f (take i ps)) (32 ∷ f (get_or ps i no_part))
    ∙ ap (λ (l : List ℕ). base ++ l) (sym (listed_more f ps i h))

pub line_all : (f : Part → List ℕ) (ps : List Part) (i x : ℕ) (t₀ t₁ t₂ t₃ : List ℕ) → length ps ≤ i → t₁ ≡ t₀ ++ (x ∷ []) → t₂ ≡ t₁ ++ listed f (take i ps)
    → t₃ ≡ t₂ ++ (10 ∷ []) → t₃ ≡ t₀ ++ (x ∷ items_text f ps)
line_all f ps i x t₀ t₁ t₂ t₃ h e₁ e₂ e₃ =
    e₃ ∙ ap (λ (l : List ℕ). l ++ (10 ∷ [])) e₂ ∙ append_assoc t₁ (listed f (take i ps)) (10 ∷ [])
    ∙ ap (λ (l : List Part). t₁ ++ (listed f l ++ (10 ∷ []))) (take_all i ps h)
    ∙ ap (λ (l : List ℕ). t₁ ++ l) (sym (items_listed f ps))
    ∙ ap (λ (l : List ℕ). l ++ items_text f ps) e₁ ∙ append_assoc t₀ (x ∷ []) (items_text f ps)

-- Where there is room for a line, there is for its next item and for its end.
pub item_room : (f : Part → List ℕ) (ps : List Part) (i : ℕ) → i < length ps
    → length (listed f (take i ps)) + length (32 ∷ f (get_or ps i no_part)) + 1 ≤ length (items_text f ps)
item_room f [] i h = absurd (omega (arith, h))
item_room f (p ∷ ps) zero h = omega (arith, length-append (f p) (items_text f ps), end_room f ps)
  where
    end_room : (f : Part → List ℕ) (ps : List Part) → 1 ≤ length (items_text f ps)
    end_room f [] = omega arith
    end_room f (p ∷ ps) = omega arith
item_room f (p ∷ ps) (suc i) h =
    omega (arith, length-append (f p) (items_text f ps), length-append (f p) (listed f (take i ps)), item_room f ps i (omega arith))

pub all_room : (f : Part → List ℕ) (ps : List Part) → length (listed f ps) + 1 ≡ length (items_text f ps)
all_room f ps = sym (ap length (items_listed f ps) ∙ length-append (listed f ps) (10 ∷ []))

module _ (line : Line) (ps : List Part) (i : ℕ) (before started now : List ℕ) (room : length before + length (line_text line ps) ≤ 1225)
    (starts : started ≡ before ++ (letter_of line ∷ [])) (so_far : now ≡ started ++ listed (λ p. pair_shown (pair_of line p)) (take i ps)) where
  pub item_fits : i < length ps → length now + length (32 ∷ pair_shown (pair_of line (get_or ps i no_part))) ≤ 1225
  item_fits h =
      let f : Part → List ℕ = λ p. pair_shown (pair_of line p) in
      omega (arith, item_room f ps i h, grown started before (letter_of line ∷ []) starts, grown now started (listed f (take i ps)) so_far)

  pub end_fits : length ps ≤ i → length now + 1 ≤ 1225
  end_fits h =
      let f : Part → List ℕ = λ p. pair_shown (pair_of line p) in
      omega (
        arith,
        all_room f ps,
        ap (λ (qs : List Part). length (listed f qs)) (take_all i ps h),
        grown started before (letter_of line ∷ []) starts,
        grown now started (listed f (take i ps)) so_far,
      )

-- How long the lines are.
pub count_line_short : (n : ℕ) → n ≤ 64 → length (75 ∷ 32 ∷ (numeral n ++ (10 ∷ []))) ≤ 5
count_line_short n h = omega (arith, length-append (numeral n) (10 ∷ []), count_length n h)

pub places_line_short : (ps : List Part) → ((i : ℕ) → i < length ps → writable (get_or ps i no_part) ≡ true) → length (items_text place_text ps) ≤ 5 * length ps + 1
places_line_short [] w = omega arith
places_line_short (p ∷ ps) w =
    omega (arith, length-append (place_text p) (items_text place_text ps), length_place p (small p (w 0 (omega arith))), places_line_short ps (λ i h. w (suc i) (omega arith)))

pub amounts_line_short : (ps : List Part) → ((i : ℕ) → i < length ps → writable (get_or ps i no_part) ≡ true) → length (items_text amounts_text ps) ≤ 14 * length ps + 1
amounts_line_short [] w = omega arith
amounts_line_short (p ∷ ps) w =
    omega (arith, length-append (amounts_text p) (items_text amounts_text ps), length_amounts p (small p (w 0 (omega arith))), amounts_line_short ps (λ i h. w (suc i) (omega arith)))

-- There is room for all three lines.
pub places_fit_in : (ps : List Part) (t₀ t₁ : List ℕ) → ((i : ℕ) → i < length ps → writable (get_or ps i no_part) ≡ true) → length ps ≤ 64
    → t₀ ≡ [] → t₁ ≡ t₀ ++ count_text (length ps) → length t₁ + length (line_text Places ps) ≤ 1225
places_fit_in ps t₀ t₁ w few e₀ e₁ =
    omega (arith, ap length e₀, grown t₁ t₀ (count_text (length ps)) e₁, count_line_short (length ps) few, places_line_short ps w)

pub amounts_fit_in : (ps : List Part) (t₀ t₁ t₂ : List ℕ) → ((i : ℕ) → i < length ps → writable (get_or ps i no_part) ≡ true) → length ps ≤ 64
    → t₀ ≡ [] → t₁ ≡ t₀ ++ count_text (length ps) → t₂ ≡ t₁ ++ line_text Places ps → length t₂ + length (line_text Amounts ps) ≤ 1225
amounts_fit_in ps t₀ t₁ t₂ w few e₀ e₁ e₂ =
    omega (
      arith,
      ap length e₀,
      grown t₁ t₀ (count_text (length ps)) e₁,
      count_line_short (length ps) few,
      grown t₂ t₁ (line_text Places ps) e₂,
      places_line_short ps w,
      amounts_line_short ps w,
    )

-- What is not writable first, by a search over the parts and over their numbers.
from_position : (ps qs : List Part) (a : ℕ) → ((k : ℕ) → k < length qs → get_or qs k no_part ≡ get_or ps (a + k) no_part)
    → position_from (λ p. not (writable p)) a qs ≡ first_from (unwritable ps) a (length qs)
from_position ps [] a h = refl
from_position ps (q ∷ qs) a h =
    let here : q ≡ get_or ps a no_part = h 0 (omega arith) ∙ ap (λ (k : ℕ). get_or ps k no_part) (omega arith) in
    ap₂ (λ (t : Bool) (r : Option ℕ). cond t (Some a) r) (ap (λ (p : Part). not (writable p)) here)
    (ap (λ (n : ℕ). position_from (λ p. not (writable p)) n qs) (omega arith)
    ∙ from_position ps qs (suc a) (λ k l. h (suc k) (omega arith) ∙ ap (λ (n : ℕ). get_or ps n no_part) (omega arith)))

pub first_unwritable_at : (ps : List Part) → position (λ p. not (writable p)) ps ≡ first_where (unwritable ps) (length ps)
first_unwritable_at ps = position_from-zero (λ p. not (writable p)) ps ∙ from_position ps ps 0 (λ k l. ap (λ (n : ℕ). get_or ps n no_part) (omega arith))
