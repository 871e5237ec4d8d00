-- What a list of bytes means, read from the left: a value with the place and the bytes after it, or the first fault.
use Rattle.std.specs.Prelude.{◌≡◌, ℕ, ◌+◌, ◌-◌, ◌*◌, Bool, false, cond, ◌&&◌, ◌||◌, List, [], ◌∷◌, length, Ok, Err, Result, ◌==◌, nat_le, nat_lt}
use Rattle.sheet.specs.declared.cursor.Cursor.{Cursor}
use Rattle.sheet.specs.declared.fault.SheetFault.{SheetFault}
use Rattle.sheet.specs.declared.fault.SheetFault.TheVariants.{Overlong, Misspelt, OffScale}
use Rattle.sheet.specs.declared.symbol.Limits.{Limits}
use Rattle.sheet.specs.declared.symbol.Stop.{Stop}
use Rattle.sheet.specs.declared.symbol.Symbol.{Symbol}
use Rattle.sheet.specs.declared.symbol.Symbol.TheVariants as Symbols
use Rattle.sheet.specs.declared.symbol.Stop.TheVariants as Stops

-- What reading comes to: a value, the place after it and the bytes from there on, or a fault.
pub data Read (A : Type 0) : Type 0 where
  got : A → ℕ → List ℕ → Read A
  bad : SheetFault → Read A

-- A call's result as a reading: an `Ok` with what it left of the bytes.
abbrev pub told : {A : Type 0} → Result A SheetFault → ℕ → List ℕ → Read A
told (Ok x) at rest = got x at rest
told (Err e) at rest = bad e

-- The same, of a result that holds the value in another form.
abbrev pub told_as : {A B : Type 0} → (A → B) → Result A SheetFault → ℕ → List ℕ → Read B
told_as view (Ok x) at rest = got (view x) at rest
told_as view (Err e) at rest = bad e

-- The parser, run at the old cursor, gives this result and leaves the new cursor.
abbrev pub Parses : {A : Type 0} → (ℕ → List ℕ → Read A) → Cursor → Result A SheetFault → Cursor → Type 0
Parses parser old result new = parser old.at old.rest.now ≡ told result new.at new.rest.now

-- The same, of a result that holds the value in another form.
abbrev pub ParsesAs : {A B : Type 0} → (A → B) → (ℕ → List ℕ → Read B) → Cursor → Result A SheetFault → Cursor → Type 0
ParsesAs view parser old result new = parser old.at old.rest.now ≡ told_as view result new.at new.rest.now

-- One reading after another, which is told what the first gave.
abbrev pub next : {A B : Type 0} → Read A → (A → ℕ → List ℕ → Read B) → Read B
next (got x at rest) then = then x at rest
next (bad e) then = bad e

-- How long an input is; above 4,096 bytes it is not read.
abbrev pub opened : List ℕ → Result ℕ SheetFault
opened bytes = cond (nat_lt 4096 (length bytes)) (Err Overlong) (Ok (length bytes))

-- One byte that has to be b.
abbrev pub expected : ℕ → ℕ → List ℕ → Read (Unit {0})
expected b at [] = bad (Misspelt at)
expected b at (x ∷ xs) = cond (x == b) (got tt (at + 1) xs) (bad (Misspelt at))

-- The end of the input, which has to be here.
abbrev pub ended : ℕ → List ℕ → Result (Unit {0}) SheetFault
ended at [] = Ok tt
ended at (x ∷ xs) = Err (Misspelt at)

-- Whether another digit may come after some digits of a value: the first, and up to six where no zero leads.
abbrev pub more : ℕ → ℕ → Bool
more digits value = digits == 0 || (nat_lt 0 value && nat_lt digits 6)

-- What a byte is to a number that has some digits.
abbrev pub symbol_of : ℕ → ℕ → ℕ → Symbol
symbol_of b digits value =
    cond (nat_le 48 b && nat_le b 57 && more digits value) (Symbols.Digit (b - 48))
    (cond (b == 47 && nat_lt 0 digits) (Symbols.Stop Stops.Slash)
    (cond (b == 32 && nat_lt 0 digits) (Symbols.Stop Stops.Space)
    (cond (b == 10 && nat_lt 0 digits) (Symbols.Stop Stops.LineFeed) Symbols.Other)))

-- The byte of a stop.
abbrev pub stop_byte : Stop → ℕ
stop_byte Stops.Slash = 47
stop_byte Stops.Space = 32
stop_byte Stops.LineFeed = 10

-- Whether a symbol is the stop that has to come.
abbrev pub stops : Stop → Symbol → Bool
stops stop (Symbols.Digit d) = false
stops stop (Symbols.Stop found) = stop_byte found == stop_byte stop
stops stop Symbols.Other = false

-- Whether a value is within limits.
abbrev pub within : Limits → ℕ → Bool
within limits value = nat_le limits.least value && nat_le value limits.most

-- A number weighed: off its limits it is a fault at its first digit.
abbrev pub weighed : Limits → ℕ → ℕ → ℕ → List ℕ → Read ℕ
weighed limits first value at rest = cond (within limits value) (got value at rest) (bad (OffScale first))

-- A number where a symbol that is no digit came: it has to be the stop.
abbrev pub stopped : Limits → Stop → Symbol → ℕ → ℕ → ℕ → List ℕ → Read ℕ
stopped limits stop symbol first value at rest =
    cond (stops stop symbol) (weighed limits first value at rest) (bad (Misspelt at))

-- The number goes on with a digit, and is stopped by any other symbol.
abbrev pub by_symbol : {A : Type 0} → Symbol → (ℕ → A) → (Symbol → A) → A
by_symbol (Symbols.Digit d) goes_on stop = goes_on d
by_symbol (Symbols.Stop found) goes_on stop = stop (Symbols.Stop found)
by_symbol Symbols.Other goes_on stop = stop Symbols.Other

-- The rest of a number that has some digits and a value, and whose first digit stood at `first`: digits, and then the stop,
-- which is not passed.
abbrev pub number_on : Limits → Stop → ℕ → ℕ → ℕ → ℕ → List ℕ → Read ℕ
number_on limits stop first digits value at [] = bad (Misspelt at)
number_on limits stop first digits value at (b ∷ bs) =
    by_symbol (symbol_of b digits value)
    (λ d. number_on limits stop first (digits + 1) (value * 10 + d) (at + 1) bs)
    (λ symbol. stopped limits stop symbol first value at (b ∷ bs))

-- A number within limits, with the stop that has to stand after it.
abbrev pub number : Limits → Stop → ℕ → List ℕ → Read ℕ
number limits stop at bytes = number_on limits stop at 0 0 at bytes
