-- A number and its text: the decimal digits of a number are read as that number, and nothing else is.
use Rattle.std.proofs.Common.{◌≡◌, ℕ, zero, suc, ◌+◌, ◌-◌, ◌*◌, ◌/◌, ◌%◌, ◌^◌, ◌<◌, ◌≤◌, Bool, true, ◌&&◌, eqb, ltb, leb, List, [], ◌∷◌, ◌++◌, length, decimal, sym, refl, ap, ◌∙◌, subst, inl, inr, arith}
use native.Mathlib.Nat.{pow-le-pow_right}
use Rattle.std.proofs.lemmas.Fmt.{AppendsLastDigit, decimal_from_appends, decimal_by_steps, decimal_digit, decimal_step, length-decimal-le, decimal_nonempty}
use Rattle.std.proofs.lemmas.List.{append_assoc, length-append}
use Rattle.std.proofs.lemmas.Bool.{cond-true, cond-false, and_from, le-leb, le-ltb, eqb-true, lt-ltb, eq-eqb, cases_Bool}
use Rattle.std.proofs.lemmas.Bool.Decides.{nat_tests}
use Rattle.sheet.specs.declared.symbol.Limits.{Limits}
use Rattle.sheet.specs.declared.symbol.Stop.{Stop}
use Rattle.sheet.specs.declared.symbol.Stop.TheVariants as Stops
use Rattle.sheet.specs.declared.symbol.Symbol.{Symbol}
use Rattle.sheet.specs.declared.symbol.Symbol.TheVariants as Symbols
use Rattle.sheet.specs.Numerals.{digits_up_to, numeral}
use Rattle.sheet.specs.Reading.{got, expected, symbol_of, more, by_symbol, stops, stop_byte, stopped, number_on, number}
use Rattle.sheet.proofs.Scale.{got_not_bad, stopped_inv}
use Rattle.sheet.proofs.Steps.{Tells, symbol_tells, grows, on_scale}

spells : AppendsLastDigit digits_up_to
spells =
    record { one = λ k n h. cond-true (ltb n 10) _ _ (lt-ltb n 10 h); more = λ k n h. cond-false (ltb n 10) _ _ (le-ltb n 10 h) }

-- The text of a number is its decimal digits, as they are printed everywhere.
pub numeral_decimal : (n : ℕ) → n < 1000000 → numeral n ≡ decimal n
numeral_decimal n h = decimal_from_appends digits_up_to spells 6 n (omega arith) (length-decimal-le 6 n (omega arith) (omega arith) (omega arith))

pub numeral_short : (k n : ℕ) → 0 < k → n < 10 ^ k → n < 1000000 → length (numeral n) ≤ k
numeral_short k n h l m = omega (arith, ap length (numeral_decimal n m), length-decimal-le k n h l (omega arith))

-- One expected byte, read and not.
pub expects : (b at : ℕ) (xs : List ℕ) → expected b at (b ∷ xs) ≡ got tt (at + 1) xs
expects b at xs = cond-true (eqb b b) _ _ (eq-eqb b b refl)

pub expected_inv : (b at : ℕ) (xs : List ℕ) (u : Unit {0}) (at' : ℕ) (xs' : List ℕ) → expected b at xs ≡ got u at' xs' → xs ≡ b ∷ xs'
expected_inv b at [] u at' xs' h = absurd (got_not_bad h)
expected_inv b at (x ∷ xs) u at' xs' h =
    elim (cases_Bool (eqb x b)) [
      | inl e ↦ let k = rw e at h in let same = eqb-true x b e in cc
      | inr e ↦ absurd (got_not_bad (rw e at h))
    ]

-- The byte of a digit is that digit, where another may come.
digit_class : (d : ℕ) (m : Bool) → d ≤ 9 → m ≡ true → (leb 48 (48 + d) && leb (48 + d) 57 && m) ≡ true
digit_class d m h e = grind (arith, nat_tests)

digit_symbol : (d digits value : ℕ) → d ≤ 9 → more digits value ≡ true → symbol_of (48 + d) digits value ≡ Symbols.Digit d
digit_symbol d digits value h m =
    let e : 48 + d - 48 ≡ d = omega arith in
    cond-true (leb 48 (48 + d) && leb (48 + d) 57 && more digits value) _ _ (digit_class d (more digits value) h m) ∙ ap Symbols.Digit e

stop_here : (s : Stop) (digits value : ℕ) → 1 ≤ digits → symbol_of (stop_byte s) digits value ≡ Symbols.Stop s
stop_here Stops.Slash digits value h = cond-true (ltb 0 digits) _ _ (lt-ltb 0 digits h)
stop_here Stops.Space digits value h = cond-true (ltb 0 digits) _ _ (lt-ltb 0 digits h)
stop_here Stops.LineFeed digits value h = cond-true (ltb 0 digits) _ _ (lt-ltb 0 digits h)

stops_own : (s : Stop) → true ≡ stops s (Symbols.Stop s)
stops_own s = sym (eq-eqb (stop_byte s) (stop_byte s) refl)

module _ (l : Limits) (s : Stop) (first : ℕ) where
  -- A number ends at its stop.
  ends_at_stop : (digits value at : ℕ) (rest : List ℕ) → 1 ≤ digits → l.least ≤ value → value ≤ l.most
      → number_on l s first digits value at (stop_byte s ∷ rest) ≡ got value at (stop_byte s ∷ rest)
  ends_at_stop digits value at rest h lo hi =
      ap (λ (y : Symbol). by_symbol y (λ d. number_on l s first (digits + 1) (value * 10 + d) (at + 1) rest)
      (λ y. stopped l s y first value at (stop_byte s ∷ rest))) (stop_here s digits value h)
      ∙ on_scale l s (Symbols.Stop s) first value at (stop_byte s ∷ rest) (stops_own s) (and_from _ _ (le-leb _ _ lo) (le-leb _ _ hi))

  -- It goes past a digit.
  past_digit : (d digits value at : ℕ) (ys : List ℕ) → d ≤ 9 → more digits value ≡ true
      → number_on l s first digits value at ((48 + d) ∷ ys) ≡ number_on l s first (digits + 1) (value * 10 + d) (at + 1) ys
  past_digit d digits value at ys h m =
      ap (λ (y : Symbol). by_symbol y (λ d. number_on l s first (digits + 1) (value * 10 + d) (at + 1) ys)
      (λ y. stopped l s y first value at ((48 + d) ∷ ys))) (digit_symbol d digits value h m)

  -- These digits bring a number from nothing to n.
  abbrev Leads : ℕ → List ℕ → Type 0
  Leads n ds =
      n < 1000000
      → (ds ≡ decimal n) × ((at : ℕ) (ys : List ℕ) → (at' : ℕ) × (number_on l s first 0 0 at (ds ++ ys) ≡ number_on l s first (length ds) n at' ys))

  one_digit : (n : ℕ) → n < 10 → Leads n ((48 + n) ∷ [])
  one_digit n h k =
      let e : 0 * 10 + n ≡ n = omega arith in (
        sym (decimal_digit n h),
        λ at ys. (at + 1, past_digit n 0 0 at ys (omega arith) refl ∙ ap (λ (v : ℕ). number_on l s first 1 v (at + 1) ys) e),
      )

  may_follow : (digits value : ℕ) → 1 ≤ value → digits ≤ 5 → more digits value ≡ true
  may_follow digits value h k = grind (arith, nat_tests)

  more_digits : (n : ℕ) (ds : List ℕ) → 10 ≤ n → Leads (n / 10) ds → Leads n (ds ++ ((48 + n % 10) ∷ []))
  more_digits n ds h ih k =
      let small : n / 10 < 1000000 = omega arith in
      let a = ih small in
      let five : n / 10 < 10 ^ 5 = omega arith in
      let len : length ds ≤ 5 = omega (arith, ap length a.0, length-decimal-le 5 (n / 10) (omega arith) five (omega arith)) in
      let one_more = length-append ds ((48 + n % 10) ∷ []) in
      let e₁ : length ds + 1 ≡ length (ds ++ ((48 + n % 10) ∷ [])) = omega arith in
      let e₂ : n / 10 * 10 + n % 10 ≡ n = omega arith in (
        ap (λ (z : List ℕ). z ++ ((48 + n % 10) ∷ [])) a.0 ∙ sym (decimal_step n h (omega arith)),
        λ at ys.
            let b = a.1 at ((48 + n % 10) ∷ ys) in (
              b.0 + 1,
              ap (number_on l s first 0 0 at) (append_assoc ds ((48 + n % 10) ∷ []) ys) ∙ b.1
                  ∙ past_digit (n % 10) (length ds) (n / 10) b.0 ys (omega arith) (may_follow (length ds) (n / 10) (omega arith) len)
                  ∙ ap (λ (m : ℕ). number_on l s first m (n / 10 * 10 + n % 10) (b.0 + 1) ys) e₁
                  ∙ ap (λ (v : ℕ). number_on l s first (length (ds ++ ((48 + n % 10) ∷ []))) v (b.0 + 1) ys) e₂,
            ),
      )

  leads : (n : ℕ) → n < 1000000 → Leads n (decimal n)
  leads n h = decimal_by_steps Leads one_digit more_digits n (omega arith)

-- The text of a number is read as that number.
pub reads_number : (l : Limits) (s : Stop) (n at : ℕ) (rest : List ℕ) → n < 1000000 → l.least ≤ n → n ≤ l.most
    → (at' : ℕ) × (number l s at (numeral n ++ (stop_byte s ∷ rest)) ≡ got n at' (stop_byte s ∷ rest))
reads_number l s n at rest h lo hi =
    let a = (leads l s at n h h).1 at (stop_byte s ∷ rest) in
    (a.0, ap (λ (z : List ℕ). number l s at (z ++ (stop_byte s ∷ rest))) (numeral_decimal n h) ∙ a.1 ∙ ends_at_stop l s at (length (decimal n)) n a.0 rest (omega (arith, decimal_nonempty n (omega arith))) lo hi)

-- The digits so far are the text of the value so far.
abbrev SoFar : List ℕ → ℕ → ℕ → Type 0
SoFar ds zero value = (ds ≡ []) × (value ≡ 0)
SoFar ds (suc k) value = (ds ≡ decimal value) × (value < 10 ^ suc k) × (suc k ≤ 6)

below_six : (k value : ℕ) → value < 10 ^ suc k → suc k ≤ 6 → value < 1000000
below_six k value h few = let p : 10 ^ suc k ≤ 10 ^ 6 = pow-le-pow_right (omega arith) few in omega arith

digit_more : (ds : List ℕ) (digits value d : ℕ) → SoFar ds digits value → d ≤ 9 → more digits value ≡ true → SoFar (ds ++ ((48 + d) ∷ [])) (suc digits) (value * 10 + d)
digit_more ds zero value d h k m =
    let e : value * 10 + d ≡ d = omega (arith, h.1) in (
      ap (λ (z : List ℕ). z ++ ((48 + d) ∷ [])) h.0 ∙ sym (decimal_digit d (omega arith)) ∙ ap decimal (sym e),
      omega (arith, e),
      omega arith,
    )
digit_more ds (suc k₁) value d h k m =
    let p : (1 ≤ value) × (suc k₁ ≤ 5) = open_more (suc k₁) value (omega arith) m in
    let b = below_six k₁ value h.1 h.2 in
    let e₁ : (value * 10 + d) / 10 ≡ value = omega arith in
    let e₂ : (value * 10 + d) % 10 ≡ d = omega arith in
    let g = grows (suc k₁) value d h.1 k in
    let e₃ : suc k₁ + 1 ≡ suc (suc k₁) = omega arith in (
      ap (λ (z : List ℕ). z ++ ((48 + d) ∷ [])) h.0
          ∙ ap (λ (v : ℕ). decimal v ++ ((48 + d) ∷ [])) (sym e₁)
          ∙ ap (λ (v : ℕ). decimal ((value * 10 + d) / 10) ++ ((48 + v) ∷ [])) (sym e₂)
          ∙ sym (decimal_step (value * 10 + d) (omega (arith, p.0)) (omega (arith, b))),
      subst (λ (n : ℕ). value * 10 + d < 10 ^ n) e₃ g,
      omega (arith, p.1),
    )
  where
    open_more : (digits value : ℕ) → 1 ≤ digits → more digits value ≡ true → (1 ≤ value) × (digits ≤ 5)
    open_more digits value h e = (grind (arith, nat_tests), grind (arith, nat_tests))

-- What a number that is read was written as.
abbrev pub WrittenAs : Stop → List ℕ → ℕ → List ℕ → Type 0
WrittenAs s xs v xs' = (xs ≡ numeral v ++ xs') × (v < 1000000) × ((rest : List ℕ) × (xs' ≡ stop_byte s ∷ rest))

stop_byte_is : (s : Stop) (y : Symbol) (b digits value : ℕ) → stops s y ≡ true → Tells b digits value y → (b ≡ stop_byte s) × (1 ≤ digits)
stop_byte_is s (Symbols.Digit d) b digits value e t = let z : ◌≡◌ {A = ℕ} 0 1 = cc in absurd (omega arith)
stop_byte_is s (Symbols.Stop found) b digits value e t = (t.0 ∙ eqb-true (stop_byte found) (stop_byte s) e, t.1)
stop_byte_is s Symbols.Other b digits value e t = let z : ◌≡◌ {A = ℕ} 0 1 = cc in absurd (omega arith)

so_far_text : (ds : List ℕ) (digits value : ℕ) → SoFar ds digits value → 1 ≤ digits → (ds ≡ decimal value) × (value < 1000000)
so_far_text ds zero value h k = absurd (omega (arith, k))
so_far_text ds (suc k₁) value h k = (h.0, below_six k₁ value h.1 h.2)

module _ (l : Limits) (s : Stop) (first v at' : ℕ) (xs' : List ℕ) where
  stop_inv : (b : ℕ) (bs ds : List ℕ) (digits value at : ℕ) (y : Symbol) → SoFar ds digits value → Tells b digits value y
      → stopped l s y first value at (b ∷ bs) ≡ got v at' xs' → WrittenAs s (ds ++ (b ∷ bs)) v xs'
  stop_inv b bs ds digits value at y sf t h =
      let k = stopped_inv l s y first value at (b ∷ bs) v at' xs' h in
      let p = stop_byte_is s y b digits value k.0 t in
      let q = so_far_text ds digits value sf p.1 in
      let m : v < 1000000 = omega (arith, k.1, q.1) in (
        ap (λ (z : List ℕ). z ++ (b ∷ bs)) (q.0 ∙ ap decimal (sym k.1) ∙ sym (numeral_decimal v m)) ∙ ap (λ (z : List ℕ). numeral v ++ z) k.3,
        m,
        (bs, sym k.3 ∙ ap (λ (x : ℕ). x ∷ bs) p.0),
      )

  symbol_inv : (b : ℕ) (bs ds : List ℕ) (digits value at : ℕ) (y : Symbol) → SoFar ds digits value → Tells b digits value y
      → ((ds : List ℕ) (digits value at : ℕ) → SoFar ds digits value → number_on l s first digits value at bs ≡ got v at' xs' → WrittenAs s (ds ++ bs) v xs')
      → by_symbol y (λ d. number_on l s first (digits + 1) (value * 10 + d) (at + 1) bs) (λ y. stopped l s y first value at (b ∷ bs)) ≡ got v at' xs'
      → WrittenAs s (ds ++ (b ∷ bs)) v xs'
  symbol_inv b bs ds digits value at (Symbols.Digit d) sf t ih h =
      let e : digits + 1 ≡ suc digits = omega arith in
      let w = ih (ds ++ ((48 + d) ∷ [])) (suc digits) (value * 10 + d) (at + 1) (digit_more ds digits value d sf t.1 t.2)
      (subst (λ (n : ℕ). number_on l s first n (value * 10 + d) (at + 1) bs ≡ got v at' xs') e h) in
      (ap (λ (x : ℕ). ds ++ (x ∷ bs)) t.0 ∙ sym (append_assoc ds ((48 + d) ∷ []) bs) ∙ w.0, w.1, w.2)
  symbol_inv b bs ds digits value at (Symbols.Stop y) sf t ih h = stop_inv b bs ds digits value at (Symbols.Stop y) sf t h
  symbol_inv b bs ds digits value at Symbols.Other sf t ih h = stop_inv b bs ds digits value at Symbols.Other sf t h

  number_on_inv : (xs ds : List ℕ) (digits value at : ℕ) → SoFar ds digits value → number_on l s first digits value at xs ≡ got v at' xs' → WrittenAs s (ds ++ xs) v xs'
  number_on_inv [] ds digits value at sf h = absurd (got_not_bad h)
  number_on_inv (b ∷ bs) ds digits value at sf h =
      symbol_inv b bs ds digits value at (symbol_of b digits value) sf (symbol_tells b digits value) (number_on_inv bs) h

-- A number that is read was written as its decimal digits, and the stop stands after it.
pub number_inv : (l : Limits) (s : Stop) (at : ℕ) (xs : List ℕ) (v at' : ℕ) (xs' : List ℕ) → number l s at xs ≡ got v at' xs' → WrittenAs s xs v xs'
number_inv l s at xs v at' xs' h = number_on_inv l s at v at' xs' xs [] 0 0 at (refl, refl) h
