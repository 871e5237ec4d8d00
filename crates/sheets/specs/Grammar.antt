-- The grammar of both sheets: what a list of bytes means from a place on, a value or the first fault.
use Rattle.std.specs.Prelude.{ℕ, zero, suc, Bool, cond, ◌||◌, List, [], ◌∷◌, ◌++◌, length, replicate, Ok, Err, Result, ◌==◌, nat_lt, slice_index}
use Rattle.schedule.specs.declared.Part.{Part}
use Rattle.sheet.specs.declared.fault.SheetFault.{SheetFault}
use Rattle.sheet.specs.declared.fault.SheetFault.TheVariants.{Overlong, Misspelt}
use Rattle.sheet.specs.declared.symbol.Limits.{Limits}
use Rattle.sheet.specs.declared.symbol.Stop.{Stop}
use Rattle.sheet.specs.declared.symbol.Stop.TheVariants.{Slash, Space, LineFeed}
use Rattle.sheet.specs.Reading.{Read, got, bad, next, expected, number}
use Rattle.sheets.specs.declared.lines.Pair.{Pair}

abbrev pub limits : ℕ → ℕ → Limits
limits least most = record { least = least; most = most }

-- Periods, costs and windows.
abbrev pub ticks : Limits
ticks = limits 1 100000

-- What stands after an item, when so many are still to come on its line.
abbrev pub next_stop : ℕ → Stop
next_stop zero = LineFeed
next_stop (suc left) = Space

-- A list that is read, after some items that have been.
abbrev pub after : {A : Type 0} → List A → Read (List A) → Read (List A)
after items r = next r (λ more at xs. got (items ++ more) at xs)

-- The items of a line after its letter, one for each of these limits: every one follows a space, and a line feed ends them.
abbrev pub items : {W A : Type 0} → (W → Stop → ℕ → List ℕ → Read A) → List W → ℕ → List ℕ → Read (List A)
items item [] at xs = next (expected 10 at xs) (λ _ at xs. got [] at xs)
items item (w ∷ ws) at xs =
    next (expected 32 at xs) (λ _ at xs.
    next (item w (next_stop (length ws)) at xs) (λ v at xs.
    next (items item ws at xs) (λ vs at xs. got (v ∷ vs) at xs)))

-- The numbers of a line.
abbrev pub numbers : List Limits → ℕ → List ℕ → Read (List ℕ)
numbers = items number

abbrev pub none : Pair ℕ
none = record { left = 0; right = 0 }

-- Two numbers with a slash between them, and the stop after them.
abbrev pub pair_within : Pair Limits → Stop → ℕ → List ℕ → Read (Pair ℕ)
pair_within w stop at xs =
    next (number w.left Slash at xs) (λ v at xs.
    next (expected 47 at xs) (λ _ at xs.
    next (number w.right stop at xs) (λ w at xs. got (record { left = v; right = w }) at xs)))

-- So many pairs of a line.
abbrev pub pairs : Limits → Limits → ℕ → ℕ → List ℕ → Read (List (Pair ℕ))
pairs left right n = items pair_within (replicate n (record { left = left; right = right }))

-- The limits of the numbers on the line of a letter, where the sheet has n tasks: T has the counts of tasks and of processors,
-- K the count of parts, P and C a period or a cost for each task. 84, 75, 80 and 67 are the letters' codes.
abbrev pub columns : ℕ → ℕ → List Limits
columns letter n =
    cond (letter == 84) (limits 1 32 ∷ limits 1 8 ∷ [])
    (cond (letter == 75) (limits 1 64 ∷ [])
    (cond (letter == 80 || letter == 67) (replicate n ticks) []))

-- Whether a line of numbers starts with the letter.
abbrev pub of_numbers : ℕ → Bool
of_numbers letter = letter == 84 || (letter == 75 || (letter == 80 || letter == 67))

-- A line of numbers.
abbrev pub line_of_numbers : ℕ → ℕ → ℕ → List ℕ → Read (List ℕ)
line_of_numbers letter n at xs =
    next (expected letter at xs) (λ _ at xs. cond (of_numbers letter) (numbers (columns letter n) at xs) (bad (Misspelt at)))

-- A line of n pairs: P has a task and a processor for each part, A a cost and a window. 80 and 65 are the letters' codes.
abbrev pub line_of_pairs : ℕ → ℕ → ℕ → List ℕ → Read (List (Pair ℕ))
line_of_pairs letter n at xs =
    next (expected letter at xs) (λ _ at xs.
    cond (letter == 80) (pairs (limits 0 31) (limits 0 7) n at xs)
    (cond (letter == 65) (pairs ticks ticks n at xs) (bad (Misspelt at))))

-- What a task sheet holds.
pub record Tasks : Type 0 where
  pub processors : ℕ
  pub periods : List ℕ
  pub costs : List ℕ

-- The lines of a task sheet.
abbrev pub lines_of_tasks : ℕ → List ℕ → Read Tasks
lines_of_tasks at xs =
    next (line_of_numbers 84 0 at xs) (λ counts at xs.
    next (line_of_numbers 80 (slice_index counts 0) at xs) (λ periods at xs.
    next (line_of_numbers 67 (slice_index counts 0) at xs) (λ costs at xs.
    got (record { processors = slice_index counts 1; periods = periods; costs = costs }) at xs)))

-- The part with this place, a task and a processor, and these amounts, a cost and a window.
abbrev pub part_of : Pair ℕ → Pair ℕ → Part
part_of place amounts = record { task = place.left; processor = place.right; cost = amounts.left; window = amounts.right }

-- The parts that have these places and these amounts.
abbrev pub assembled : List (Pair ℕ) → List (Pair ℕ) → List Part
assembled [] amounts = []
assembled (p ∷ places) [] = []
assembled (p ∷ places) (a ∷ amounts) = part_of p a ∷ assembled places amounts

-- The lines of a plan sheet.
abbrev pub lines_of_plan : ℕ → List ℕ → Read (List Part)
lines_of_plan at xs =
    next (line_of_numbers 75 0 at xs) (λ counts at xs.
    next (line_of_pairs 80 (slice_index counts 0) at xs) (λ places at xs.
    next (line_of_pairs 65 (slice_index counts 0) at xs) (λ amounts at xs. got (assembled places amounts) at xs)))

-- The lines of a task sheet with those of a plan sheet right after them.
abbrev pub both_lines : ℕ → List ℕ → Read (Tasks × List Part)
both_lines at xs =
    next (lines_of_tasks at xs) (λ tasks at xs.
    next (lines_of_plan at xs) (λ parts at xs. got (tasks, parts) at xs))

-- What is read of a whole input has to end with it.
abbrev pub closed : {A : Type 0} → Read A → Result A SheetFault
closed (got x at []) = Ok x
closed (got x at (b ∷ bs)) = Err (Misspelt at)
closed (bad e) = Err e

-- What a whole input means to a reader: above 4,096 bytes it is not read.
abbrev pub whole : {A : Type 0} → (ℕ → List ℕ → Read A) → List ℕ → Result A SheetFault
whole reader bytes = cond (nat_lt 4096 (length bytes)) (Err Overlong) (closed (reader 0 bytes))

-- What a list of bytes means as a task sheet, as a plan sheet, and as both.
abbrev pub task_sheet : List ℕ → Result Tasks SheetFault
task_sheet = whole lines_of_tasks

abbrev pub plan_sheet : List ℕ → Result (List Part) SheetFault
plan_sheet = whole lines_of_plan

abbrev pub sheet_pair : List ℕ → Result (Tasks × List Part) SheetFault
sheet_pair = whole both_lines
