-- The laws of sheets: which bytes are one, and of which tasks or plan.
use Rattle.std.specs.Prelude.{◌≡◌, ℕ, ◌<◌, ◌≤◌, true, List, ◌++◌, length, Ok, slice_index, slice_index_or}
use Rattle.schedule.specs.declared.Part.{Part}
use Rattle.sheets.specs.Grammar.{Tasks, task_sheet, plan_sheet, sheet_pair}
use Rattle.sheets.specs.Texts.{task_text, plan_text, writable, written, no_part}
use Rattle.tasks.specs.Sets.{on_scale}

-- A plan that a sheet can hold: 1 to 64 parts, each within the limits of a sheet.
pub record Sheetable (ps : List Part) : Type 0 where
  pub some : 1 ≤ length ps
  pub few : length ps ≤ 64
  pub each : (i : ℕ) → i < length ps → writable (slice_index_or ps i no_part) ≡ true

-- The plan sheets are exactly the texts of such plans: bytes that are read as a plan are its text, and its text is read as the plan.
abbrev pub SheetsAreTexts : Type 0
SheetsAreTexts =
    (bytes : List ℕ) (ps : List Part)
    → (plan_sheet bytes ≡ Ok ps → Sheetable ps × (bytes ≡ plan_text ps)) × (Sheetable ps → bytes ≡ plan_text ps → plan_sheet bytes ≡ Ok ps)

-- Different plans have different sheets.
abbrev pub DifferentSheets : Type 0
DifferentSheets = (ps qs : List Part) → Sheetable ps → Sheetable qs → plan_text ps ≡ plan_text qs → ps ≡ qs

-- A plan that is written back as the bytes that it was read from, wherever there is room for them.
pub record WrittenBack (ps : List Part) (bytes : List ℕ) : Type 0 where
  pub text : plan_text ps ≡ bytes
  pub answer : (room : ℕ) → length bytes ≤ room → written ps room ≡ Ok (length bytes)

-- What a task sheet can hold: 1 to 32 tasks and 1 to 8 processors, and a period and a cost within the limits of a sheet for each
-- task.
pub record TaskSheetable (t : Tasks) : Type 0 where
  pub some : 1 ≤ length t.periods
  pub few : length t.periods ≤ 32
  pub as_many : length t.costs ≡ length t.periods
  pub a_processor : 1 ≤ t.processors
  pub eight : t.processors ≤ 8
  pub periods : (i : ℕ) → i < length t.periods → on_scale (slice_index t.periods i) ≡ true
  pub costs : (i : ℕ) → i < length t.costs → on_scale (slice_index t.costs i) ≡ true

-- The task sheets are exactly the texts of these.
abbrev pub TaskSheetsAreTexts : Type 0
TaskSheetsAreTexts =
    (bytes : List ℕ) (t : Tasks)
    → (task_sheet bytes ≡ Ok t → TaskSheetable t × (bytes ≡ task_text t)) × (TaskSheetable t → bytes ≡ task_text t → task_sheet bytes ≡ Ok t)

-- Both sheets are one text right after the other.
abbrev pub BothAreTexts : Type 0
BothAreTexts =
    (bytes : List ℕ) (t : Tasks) (ps : List Part)
    → (sheet_pair bytes ≡ Ok (t, ps) → TaskSheetable t × Sheetable ps × (bytes ≡ task_text t ++ plan_text ps))
    × (TaskSheetable t → Sheetable ps → bytes ≡ task_text t ++ plan_text ps → sheet_pair bytes ≡ Ok (t, ps))
