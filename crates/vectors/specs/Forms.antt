-- The forms of the worked examples: what a row says of the bytes of its sheets. Each speaks of whatever reading makes of the bytes,
-- under the rate-monotonic order and the spaced rule of the tasks.
use Rattle.std.specs.Prelude.{◌≡◌, ℕ, ◌<◌, List, [], ◌∷◌, ◌++◌, map, length, Some, None, Ok, Err, Result}
use Rattle.std.specs.Option.{option_map}
use Rattle.schedule.specs.declared.Part.{Part}
use Rattle.schedule.specs.TickRule.{Answer, history, started}
use Rattle.tasks.specs.Numbers.{rounded_up}
use Rattle.tasks.specs.Orders.{by_period}
use Rattle.tasks.specs.Sets.{period_of}
use Rattle.rules.specs.Spacing.{Spaced, spaced_curve}
use Rattle.tasks.specs.declared.set.TaskSet.{TaskSet}
use Rattle.plan.specs.Answers.{check_fault, check_answer}
use Rattle.plan.specs.Checks.{response_times}
use Rattle.parts.specs.Faults.{shown, by_plan}
use Rattle.parts.specs.Parts.{plan_of}
use Rattle.plan.specs.Systems.{system}
use Rattle.parts.specs.declared.fault.PlanFault.{PlanFault}
use Rattle.parts.specs.declared.lists.Proposal.{Proposal}
use Rattle.driving.specs.Driving.{call_of}
use Rattle.driving.specs.declared.Call.{Call}
use Rattle.spa2.specs.Plans.{plan_for}
use Rattle.sheets.specs.Answers.{ReadTasks, ReadBoth}
use Rattle.sheets.specs.Grammar.{task_sheet, sheet_pair}
use Rattle.sheets.specs.Refusals.{task_refusal, both_refusal}
use Rattle.sheets.specs.Texts.{plan_text, written}
use Rattle.sheets.specs.declared.TaskSheet.{TaskSheet}

-- Lines of text as the bytes of a sheet: a line feed, 10, ends each.
abbrev pub lines : List (List ℕ) → List ℕ
lines [] = []
lines (l ∷ ls) = l ++ (10 ∷ lines ls)

-- The releases of a task of this period in L ticks.
abbrev pub releases_in : ℕ → ℕ → ℕ
releases_in period L = rounded_up L period

-- The rule is the spaced rule of the set.
abbrev pub SpacedBy : Spaced → TaskSet → Type 0
SpacedBy rule set = (i L : ℕ) → i < 32 → spaced_curve rule i L ≡ releases_in (period_of set i) L

-- There is a plan, and its sheet is these bytes, for which a buffer of 2,048 has room.
abbrev pub WrittenAs : List ℕ → Result (List Part) PlanFault → Type 0
WrittenAs output (Ok ps) = (plan_text ps ≡ output) × (written ps 2048 ≡ Ok (length output))
WrittenAs output (Err f) = ⊥

-- The task sheet is taken, and the planner writes this plan sheet.
abbrev pub PlannerWrites : List ℕ → List ℕ → Type 0
PlannerWrites input output =
    (task_refusal input ≡ None)
    × ((sheet : TaskSheet) (rule : Spaced) → ReadTasks (task_sheet input) (Ok sheet) → SpacedBy rule sheet.set →
    WrittenAs output (plan_for sheet.set sheet.processors by_period (spaced_curve rule)))

-- A task sheet and the plan sheet after it are taken, and this is so of the set, the count of processors, the plan and the curves.
abbrev pub OfBoth : List ℕ → (TaskSet → ℕ → List Part → (ℕ → ℕ → ℕ) → Type 0) → Type 0
OfBoth input Says =
    (both_refusal input ≡ None)
    × ((sheet : TaskSheet) (plan : Proposal) (rule : Spaced) → ReadBoth (sheet_pair input) (Ok (sheet, plan)) → SpacedBy rule sheet.set →
    Says sheet.set sheet.processors (plan_of plan) (spaced_curve rule))

-- The check accepts the plan, with these response times, where there is room for 64.
abbrev pub CheckerAccepts : List ℕ → List ℕ → Type 0
CheckerAccepts input times =
    OfBoth input (λ set m ps curve.
    (check_answer set m ps by_period curve 64 ≡ Ok (length times))
    × (response_times (system set m ps by_period curve) ps ≡ times))

-- The check refuses the plan by this number of layer K, at this place.
abbrev pub CheckerRefuses : List ℕ → ℕ → ℕ → Type 0
CheckerRefuses input number place =
    OfBoth input (λ set m ps curve. option_map shown (check_fault set m ps by_period curve 64) ≡ Some (by_plan number place))

-- A machine started from the plan answers the calls so.
abbrev pub MachineAnswers : List ℕ → List Call → List Answer → Type 0
MachineAnswers input calls answers =
    OfBoth input (λ set m ps curve.
    map (λ e. e.1) (history (system set m ps by_period curve) (started (system set m ps by_period curve)) (map call_of calls)) ≡ answers)
