-- Each call's refusal by layer, number and place.
use Rattle.std.specs.Prelude.{ℕ, List, Some, None, Ok, Err, Option, Result}
use Rattle.std.specs.Option.{option_map}
use Rattle.schedule.specs.declared.Part.{Part}
use Rattle.sheet.specs.declared.fault.Refusal.{Refusal}
use Rattle.sheet.specs.declared.fault.SheetFault.{SheetFault}
use Rattle.sheet.specs.Faults as Sheets
use Rattle.tasks.specs.Faults as Sets
use Rattle.tasks.specs.Sets.{set_fault}
use Rattle.parts.specs.Faults as Plans
use Rattle.sheets.specs.Grammar.{Tasks, task_sheet, plan_sheet, sheet_pair}
use Rattle.sheets.specs.Texts.{written}

-- The refusal in an answer, as it is shown.
abbrev pub refusal_in : {A E : Type 0} → (E → Refusal) → Result A E → Option Refusal
refusal_in shown (Ok x) = None
refusal_in shown (Err e) = Some (shown e)

-- A fault of the bytes, or else what is wrong with the tasks that were read.
abbrev pub then_set : {A : Type 0} → (A → Tasks) → Result A SheetFault → Option Refusal
then_set tasks (Ok x) = option_map Sets.shown (set_fault (tasks x).periods (tasks x).costs)
then_set tasks (Err e) = Some (Sheets.shown e)

-- How a task sheet is refused.
abbrev pub task_refusal : List ℕ → Option Refusal
task_refusal bytes = then_set (λ t. t) (task_sheet bytes)

-- How a plan sheet is refused.
abbrev pub plan_refusal : List ℕ → Option Refusal
plan_refusal bytes = refusal_in Sheets.shown (plan_sheet bytes)

-- How a task sheet with a plan sheet right after it is refused: for all of the bytes before the set.
abbrev pub both_refusal : List ℕ → Option Refusal
both_refusal bytes = then_set (λ b. b.0) (sheet_pair bytes)

-- How writing a plan is refused, where there is room for so many bytes.
abbrev pub write_refusal : List Part → ℕ → Option Refusal
write_refusal ps room = refusal_in Plans.shown (written ps room)
