-- Every row of the table holds, by evaluation.
use Rattle.std.proofs.Common.{◌≡◌, ℕ, List, [], ◌∷◌, ◌++◌, map, length, Some, None, Ok, codes, refl}
use Rattle.std.specs.Option.{option_map}
use Rattle.schedule.specs.declared.Part.{Part}
use Rattle.schedule.specs.TickRule.{Answer, history, started}
use Rattle.plan.specs.Answers.{refused_or}
use Rattle.plan.specs.Checks.{response_times}
use Rattle.parts.specs.Faults.{shown, by_plan}
use Rattle.driving.specs.Driving.{call_of}
use Rattle.driving.specs.declared.Call.{Call}
use Rattle.sheets.specs.Grammar.{Tasks, sheet_pair}
use Rattle.sheets.specs.Refusals.{both_refusal}
use Rattle.vectors.specs.Forms.{CheckerAccepts, CheckerRefuses, MachineAnswers}
use Rattle.vectors.specs.Rows.{EveryRowHolds, three_tasks, four_parts, two_tasks, full_pair, two_releases}
use Rattle.vectors.proofs.AsRead.{numbers, curves, system_of, fault, of_tasks, of_both}

module _ (input : List ℕ) (t : Tasks) (ps : List Part) (no_fault : both_refusal input ≡ None) (read : sheet_pair input ≡ Ok (t, ps)) where
  accepts : (times : List ℕ) → refused_or (fault (numbers t) t.processors ps (curves (numbers t)) 64) (length ps) ≡ Ok (length times) →
      response_times (system_of (numbers t) t.processors ps (curves (numbers t))) ps ≡ times → CheckerAccepts input times
  accepts times answer each =
      of_both _ (λ z m qs c. (refused_or (fault z m qs c 64) (length qs) ≡ Ok (length times)) × (response_times (system_of z m qs c) qs ≡ times))
      (λ set m qs curve h. h) input t ps no_fault read (answer, each)

  refuses : (number place : ℕ) → option_map shown (fault (numbers t) t.processors ps (curves (numbers t)) 64) ≡ Some (by_plan number place) → CheckerRefuses input number place
  refuses number place found =
      of_both _ (λ z m qs c. option_map shown (fault z m qs c 64) ≡ Some (by_plan number place)) (λ set m qs curve h. h) input t ps no_fault read found

  machine : (calls : List Call) (answers : List Answer) →
      map (λ e. e.1) (history (system_of (numbers t) t.processors ps (curves (numbers t))) (started (system_of (numbers t) t.processors ps (curves (numbers t)))) (map call_of calls)) ≡ answers →
      MachineAnswers input calls answers
  machine calls answers told =
      of_both _ (λ z m qs c. map (λ e. e.1) (history (system_of z m qs c) (started (system_of z m qs c)) (map call_of calls)) ≡ answers) (λ set m qs curve h. h)
      input t ps no_fault read told

abbrev part : ℕ → ℕ → ℕ → ℕ → Part
part i p c w = record { task = i; processor = p; cost = c; window = w }

abbrev three : Tasks
three = record { processors = 2; periods = 100 ∷ 120 ∷ 150 ∷ []; costs = 60 ∷ 60 ∷ 60 ∷ [] }

-- The amounts of the cut task's parts.
abbrev four : ℕ → ℕ → ℕ → ℕ → List Part
four c w d v = part 1 0 60 120 ∷ part 2 1 60 150 ∷ part 0 1 c w ∷ part 0 0 d v ∷ []

abbrev two : ℕ → ℕ → Tasks
two period cost = record { processors = 1; periods = 10 ∷ period ∷ []; costs = 5 ∷ cost ∷ [] }

abbrev pair : ℕ → ℕ → List Part
pair cost window = part 0 0 5 10 ∷ part 1 0 cost window ∷ []

pub every_row : EveryRowHolds
every_row = record {
  one_task_fills_a_processor = refl;
  two_tasks_fill_less = refl;
  three_tasks_fill_less = refl;
  four_tasks_fill_less = refl;
  a_task_is_cut_in_two = of_tasks three_tasks three _ refl refl (refl, refl);
  the_plan_is_in_time = accepts (three_tasks ++ four_parts (codes "A 60/120 60/150 37/37 23/63")) three (four 37 37 23 63) refl refl _ refl refl;
  a_window_below_the_cost_is_late = refuses (three_tasks ++ four_parts (codes "A 60/120 60/150 37/36 23/63")) three (four 37 36 23 63) refl refl _ _ refl;
  a_missing_tick_is_a_miscount = refuses (three_tasks ++ four_parts (codes "A 60/120 60/150 37/37 22/63")) three (four 37 37 22 63) refl refl _ _ refl;
  windows_above_the_period_overlap = refuses (three_tasks ++ four_parts (codes "A 60/120 60/150 37/37 23/64")) three (four 37 37 23 64) refl refl _ _ refl;
  a_period_admits_one_release = accepts (two_tasks (codes "P 10 14") (codes "C 5 5") (codes "A 5/10 5/14")) (two 14 5) (pair 5 14) refl refl _ refl refl;
  a_response_time_may_fill_its_window = accepts full_pair (two 16 6) (pair 6 16) refl refl _ refl refl;
  a_window_a_tick_shorter_is_late = refuses (two_tasks (codes "P 10 16") (codes "C 5 6") (codes "A 5/10 6/15")) (two 16 6) (pair 6 15) refl refl _ _ refl;
  a_release_waits_for_its_period = machine full_pair (two 16 6) (pair 6 16) refl refl two_releases _ refl;
}
