-- One step of a reading: the next byte, and what it is to a number.
use Rattle.std.proofs.Common.{◌≡◌, ℕ, suc, ◌+◌, ◌-◌, ◌*◌, ◌^◌, ◌<◌, ◌≤◌, Bool, true, ◌&&◌, eqb, ltb, leb, List, ◌∷◌, length, get_or, drop, sym, ap, ◌∙◌, pow-suc, arith}
use Rattle.std.proofs.lemmas.List.{drop_more}
use Rattle.std.proofs.lemmas.Bool.{cond_both, cond-true, and_parts, eqb-true, ltb-true}
use Rattle.std.proofs.lemmas.Bool.Decides.{nat_tests}
use Rattle.sheet.specs.declared.symbol.Symbol.{Symbol}
use Rattle.sheet.specs.declared.symbol.Symbol.TheVariants as Symbols
use Rattle.sheet.specs.declared.symbol.Limits.{Limits}
use Rattle.sheet.specs.declared.symbol.Stop.{Stop}
use Rattle.sheet.specs.Reading.{got, symbol_of, more, by_symbol, stop_byte, stops, within, stopped, number_on}

-- What each symbol tells of its byte.
abbrev pub Tells : ℕ → ℕ → ℕ → Symbol → Type 0
Tells b digits value (Symbols.Digit d) = (b ≡ 48 + d) × (d ≤ 9) × (more digits value ≡ true)
Tells b digits value (Symbols.Stop s) = (b ≡ stop_byte s) × (1 ≤ digits)
Tells b digits value Symbols.Other = Unit {0}

in_class : (b : ℕ) (m : Bool) → (leb 48 b && leb b 57 && m) ≡ true → (b ≡ 48 + (b - 48)) × (b - 48 ≤ 9) × (m ≡ true)
in_class b m e = (grind (arith, nat_tests), grind (arith, nat_tests), grind (arith, nat_tests))

after_some : (b x digits : ℕ) → (eqb b x && ltb 0 digits) ≡ true → (b ≡ x) × (1 ≤ digits)
after_some b x digits e = let p = and_parts (eqb b x) (ltb 0 digits) e in (eqb-true b x p.0, ltb-true 0 digits p.1)

pub symbol_tells : (b digits value : ℕ) → Tells b digits value (symbol_of b digits value)
symbol_tells b digits value =
    cond_both (leb 48 b && leb b 57 && more digits value) _ _ (Tells b digits value) (λ e. in_class b (more digits value) e)
    (λ _. cond_both (eqb b 47 && ltb 0 digits) _ _ (Tells b digits value) (λ e. after_some b 47 digits e)
    (λ _. cond_both (eqb b 32 && ltb 0 digits) _ _ (Tells b digits value) (λ e. after_some b 32 digits e)
    (λ _. cond_both (eqb b 10 && ltb 0 digits) _ _ (Tells b digits value) (λ e. after_some b 10 digits e) (λ _. tt))))

-- A number at the byte that comes after its digits so far.
pub at_byte : (l : Limits) (stop : Stop) (first digits value at : ℕ) (xs : List ℕ) (s : Symbol) → digits < length xs
    → s ≡ symbol_of (get_or xs digits 0) digits value
    → number_on l stop first digits value at (drop digits xs)
    ≡ by_symbol s (λ d. number_on l stop first (digits + 1) (value * 10 + d) (at + 1) (drop (digits + 1) xs))
    (λ symbol. stopped l stop symbol first value at (drop digits xs))
at_byte l stop first digits value at xs s h e =
    let next = drop_more xs digits 0 h in
    ap (number_on l stop first digits value at) next
    ∙ ap (λ (s : Symbol). by_symbol s (λ d. number_on l stop first (digits + 1) (value * 10 + d) (at + 1) (drop (digits + 1) xs))
    (λ symbol. stopped l stop symbol first value at (get_or xs digits 0 ∷ drop (digits + 1) xs))) (sym e)
    ∙ ap (λ (z : List ℕ). by_symbol s (λ d. number_on l stop first (digits + 1) (value * 10 + d) (at + 1) (drop (digits + 1) xs))
    (λ symbol. stopped l stop symbol first value at z)) (sym next)

-- A digit more, of a value that has at most five.
pub grows : (digits value d : ℕ) → value < 10 ^ digits → d ≤ 9 → value * 10 + d < 10 ^ (digits + 1)
grows digits value d h k = let e = pow-suc 10 digits in let f : 10 ^ (digits + 1) ≡ 10 ^ suc digits = ap (λ (n : ℕ). 10 ^ n) (omega arith) in omega arith

-- A number that stopped where it should, within its limits, is read.
pub on_scale : (limits : Limits) (stop : Stop) (s : Symbol) (first value at : ℕ) (xs : List ℕ) → true ≡ stops stop s
    → within limits value ≡ true
    → stopped limits stop s first value at xs ≡ got value at xs
on_scale limits stop s first value at xs e h = cond-true (stops stop s) _ _ (sym e) ∙ cond-true (within limits value) _ _ h
