-- The text of a plan: what is written of it.
use Rattle.std.specs.Prelude.{ℕ, Bool, cond, not, ◌&&◌, List, [], ◌∷◌, ◌++◌, length, drop, Some, None, Ok, Err, Option, Result, nat_le, nat_lt, slice_index_or}
use Rattle.tasks.specs.Searches.{first_where}
use Rattle.parts.specs.Fixed.{elements}
use Rattle.parts.specs.declared.fault.PlanFault.{PlanFault}
use Rattle.parts.specs.declared.fault.PlanFault.TheVariants.{OffScale, Cramped}
use Rattle.sheet.specs.Numerals.{numeral}
use Rattle.schedule.specs.declared.Part.{Part}
use Rattle.sheets.specs.declared.lines.Pair.{Pair}
use Rattle.sheets.specs.declared.text.Text.{Text}
use Rattle.sheets.specs.declared.text.Line.{Line}
use Rattle.sheets.specs.declared.text.Line.TheVariants.{Places, Amounts}
use Rattle.sheets.specs.Grammar.{Tasks}
use Rattle.tasks.specs.Sets.{on_scale}

abbrev pub text_of : Text → List ℕ
text_of t = elements t.written

-- Two numbers with a slash between them.
abbrev pub pair_text : ℕ → ℕ → List ℕ
pair_text left right = numeral left ++ (47 ∷ numeral right)

abbrev pub pair_shown : Pair ℕ → List ℕ
pair_shown p = pair_text p.left p.right

-- What a line has for a part: where it runs, its task and its processor, or how long, its cost and its window.
abbrev pub pair_of : Line → Part → Pair ℕ
pair_of Places p = record { left = p.task; right = p.processor }
pair_of Amounts p = record { left = p.cost; right = p.window }

abbrev pub place_text : Part → List ℕ
place_text p = pair_shown (pair_of Places p)

abbrev pub amounts_text : Part → List ℕ
amounts_text p = pair_shown (pair_of Amounts p)

-- The character that a line starts with: P or A.
abbrev pub letter_of : Line → ℕ
letter_of Places = 80
letter_of Amounts = 65

-- The items of a line after its letter: each follows a space, and a line feed ends them.
abbrev pub items_text : {A : Type 0} → (A → List ℕ) → List A → List ℕ
items_text f [] = 10 ∷ []
items_text f (p ∷ ps) = 32 ∷ (f p ++ items_text f ps)

-- Items, each after its space.
abbrev pub listed : (Part → List ℕ) → List Part → List ℕ
listed f [] = []
listed f (p ∷ ps) = 32 ∷ (f p ++ listed f ps)

-- The line of the count of the parts.
abbrev pub count_text : ℕ → List ℕ
count_text n = 75 ∷ 32 ∷ (numeral n ++ (10 ∷ []))

-- A line with a pair for each part.
abbrev pub line_text : Line → List Part → List ℕ
line_text line ps = letter_of line ∷ items_text (λ p. pair_shown (pair_of line p)) ps

-- The text of a plan: the count of its parts, their places, and their amounts.
abbrev pub plan_text : List Part → List ℕ
plan_text ps =
    75 ∷ 32 ∷ (numeral (length ps) ++ (10 ∷ 80 ∷ (items_text place_text ps ++ (65 ∷ items_text amounts_text ps))))

-- A part that a sheet can hold.
abbrev pub writable : Part → Bool
writable p = nat_le p.task 31 && (nat_le p.processor 7 && (on_scale p.cost && on_scale p.window))

abbrev pub no_part : Part
no_part = record { task = 0; processor = 0; cost = 0; window = 0 }

-- Part i is one that a sheet cannot hold.
abbrev pub unwritable : List Part → ℕ → Bool
unwritable ps i = not (writable (slice_index_or ps i no_part))

-- What writing answers, where there is room for so many bytes: the first part that cannot be read back, or too little room, or
-- how many bytes were written.
abbrev pub fitted : ℕ → ℕ → Result ℕ PlanFault
fitted needed room = cond (nat_lt room needed) (Err (Cramped needed)) (Ok needed)

abbrev pub written_or : Option ℕ → Result ℕ PlanFault → Result ℕ PlanFault
written_or (Some i) r = Err (OffScale i)
written_or None r = r

abbrev pub written : List Part → ℕ → Result ℕ PlanFault
written ps room = written_or (first_where (unwritable ps) (length ps)) (fitted (length (plan_text ps)) room)

-- What writing leaves in the buffer: the text and then the bytes that were there, or where it refuses, what was there.
abbrev pub left_in : Result ℕ PlanFault → List ℕ → List ℕ → List ℕ
left_in (Ok n) text old = text ++ drop n old
left_in (Err f) text old = old

-- The text of a task sheet: the counts of tasks and processors, the periods, and the costs.
abbrev pub task_text : Tasks → List ℕ
task_text t =
    84 ∷ (items_text numeral (length t.periods ∷ t.processors ∷ [])
    ++ (80 ∷ (items_text numeral t.periods ++ (67 ∷ items_text numeral t.costs))))
