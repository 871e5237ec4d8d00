-- What the readers answer to the bytes that they are given.
use Rattle.std.specs.Prelude.{◌≡◌, ℕ, true, false, List, length, Ok, Err, Result, nat_lt}
use Rattle.schedule.specs.declared.Part.{Part}
use Rattle.sheet.specs.declared.cursor.Cursor.{Cursor}
use Rattle.sheet.specs.declared.fault.SheetFault.{SheetFault}
use Rattle.sheet.specs.declared.fault.SheetFault.TheVariants.{Overlong}
use Rattle.sheet.specs.Reading.{told}
use Rattle.tasks.specs.declared.fault.SetFault.{SetFault}
use Rattle.tasks.specs.declared.fault.SetFault.TheVariants as SetFaults
use Rattle.tasks.specs.Sets.{Made}
use Rattle.parts.specs.declared.fault.PlanFault.{PlanFault}
use Rattle.parts.specs.declared.fault.PlanFault.TheVariants as PlanFaults
use Rattle.parts.specs.declared.lists.Proposal.{Proposal}
use Rattle.parts.specs.Parts.{PartList}
use Rattle.parts.specs.Fixed.{elements}
use Rattle.parts.specs.Parts.{plan_of, parts_of}
use Rattle.sheets.specs.declared.drafts.TaskDraft.{TaskDraft}
use Rattle.sheets.specs.declared.TaskSheet.{TaskSheet}
use Rattle.sheets.specs.Grammar.{Tasks, closed}

-- What a run of a reader from the start of a whole input comes to: the input is too long, or what the run gave holds, if it ends
-- with the input.
abbrev pub ReadsWhole : {A : Type 0} → (Cursor → Result A SheetFault → Cursor → Type 0) → List ℕ → Result A SheetFault → Type 0
ReadsWhole {A} runs bytes result =
    (nat_lt 4096 (length bytes) ≡ true → result ≡ Err Overlong)
    × (nat_lt 4096 (length bytes) ≡ false →
    (start last : Cursor) × (r : Result A SheetFault) × (start.at ≡ 0) × (start.rest.now ≡ bytes) × runs start r last
    × (result ≡ closed (told r last.at last.rest.now)))

-- What a draft holds.
abbrev pub drafted : TaskDraft → Tasks
drafted d = record { processors = d.processors; periods = elements d.periods; costs = elements d.costs }

-- A task sheet is what its lines make, once the set is made.
abbrev pub SheetOf : Tasks → Result TaskSheet SetFault → Type 0
SheetOf t (Ok s) = Made t.periods t.costs (Ok s.set) × (s.processors ≡ t.processors)
SheetOf t (Err f) = Made t.periods t.costs (Err f)

-- The answer to what a task sheet means: a fault of its bytes, whole, or what its lines make.
abbrev pub ReadTasks : Result Tasks SheetFault → Result TaskSheet SetFault → Type 0
ReadTasks (Ok t) r = SheetOf t r
ReadTasks (Err e) r = r ≡ Err (SetFaults.Sheet e)

-- The same where a plan sheet follows: its bytes are read before the set is made.
abbrev pub PartsOf : Tasks → List Part → Result (TaskSheet × PartList) SetFault → Type 0
PartsOf t ps (Ok b) = SheetOf t (Ok b.0) × (parts_of b.1 ≡ ps)
PartsOf t ps (Err f) = SheetOf t (Err f)

abbrev pub ReadParts : Result (Tasks × List Part) SheetFault → Result (TaskSheet × PartList) SetFault → Type 0
ReadParts (Ok b) r = PartsOf b.0 b.1 r
ReadParts (Err e) r = r ≡ Err (SetFaults.Sheet e)

-- The answer to what both sheets mean: a fault of the bytes, whole, or of the task set, whole, or both values.
abbrev pub BothOf : Tasks → List Part → Result (TaskSheet × Proposal) PlanFault → Type 0
BothOf t ps (Ok b) = SheetOf t (Ok b.0) × (plan_of b.1 ≡ ps)
BothOf t ps (Err f) = (g : SetFault) × (f ≡ PlanFaults.Set g) × SheetOf t (Err g)

abbrev pub ReadBoth : Result (Tasks × List Part) SheetFault → Result (TaskSheet × Proposal) PlanFault → Type 0
ReadBoth (Ok b) r = BothOf b.0 b.1 r
ReadBoth (Err e) r = r ≡ Err (PlanFaults.Set (SetFaults.Sheet e))
