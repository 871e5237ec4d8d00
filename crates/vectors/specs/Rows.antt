-- The table of worked examples. Each row is named by what it shows.
use Rattle.std.specs.Prelude.{◌≡◌, ℕ, List, [], ◌∷◌, ◌++◌, replicate, codes}
use Rattle.schedule.specs.TickRule.{Answer, taken, ran, refused}
use Rattle.driving.specs.declared.Call.{Call}
use Rattle.driving.specs.declared.Call.TheVariants.{Release, Tick}
use Rattle.spa2.specs.Thetas.{theta_of}
use Rattle.vectors.specs.Forms.{lines, PlannerWrites, CheckerAccepts, CheckerRefuses, MachineAnswers}

-- Three tasks on two processors.
abbrev pub three_tasks : List ℕ
three_tasks = lines (codes "T 3 2" ∷ codes "P 100 120 150" ∷ codes "C 60 60 60" ∷ [])

-- A plan of four parts with these amounts: tasks 1 and 2 are whole, task 0 is cut, first on processor 1, then on processor 0.
abbrev pub four_parts : List ℕ → List ℕ
four_parts amounts = lines (codes "K 4" ∷ codes "P 1/0 2/1 0/1 0/0" ∷ amounts ∷ [])

-- Two tasks on one processor with these periods and costs, each whole, and a plan with these amounts.
abbrev pub two_tasks : List ℕ → List ℕ → List ℕ → List ℕ
two_tasks periods costs amounts = lines (codes "T 2 1" ∷ periods ∷ costs ∷ codes "K 2" ∷ codes "P 0/0 1/0" ∷ amounts ∷ [])

-- The plan that fills its one processor in its first 16 ticks.
abbrev pub full_pair : List ℕ
full_pair = two_tasks (codes "P 10 16") (codes "C 5 6") (codes "A 5/10 6/16")

-- Both tasks are released at time 0, task 0 once more at time 9 and again at time 10; then six ticks.
abbrev pub two_releases : List Call
two_releases = Release 0 ∷ Release 1 ∷ (replicate 9 (Tick 1) ++ (Release 0 ∷ Tick 1 ∷ Release 0 ∷ replicate 6 (Tick 1)))

-- So many ticks that all run this task on the one processor.
abbrev pub run : ℕ → ℕ → List Answer
run n task = replicate n (ran (task ∷ []))

pub record EveryRowHolds : Type 0 where
  -- one task may fill a processor, and the more tasks there are, the less they may fill of it
  pub one_task_fills_a_processor : theta_of 1 ≡ 1000000
  pub two_tasks_fill_less : theta_of 2 ≡ 828427
  pub three_tasks_fill_less : theta_of 3 ≡ 779763
  pub four_tasks_fill_less : theta_of 4 ≡ 756828
  -- the planner cuts task 0 in two: its last part gets what the first leaves of the period, 63 of 100
  pub a_task_is_cut_in_two : PlannerWrites three_tasks (four_parts (codes "A 60/120 60/150 37/37 23/63"))
  -- the plan is accepted, each part with its response time
  pub the_plan_is_in_time : CheckerAccepts (three_tasks ++ four_parts (codes "A 60/120 60/150 37/37 23/63")) (83 ∷ 97 ∷ 37 ∷ 23 ∷ [])
  -- a window of 36 for the 37 ticks of part 2 is too short: late at that part
  pub a_window_below_the_cost_is_late : CheckerRefuses (three_tasks ++ four_parts (codes "A 60/120 60/150 37/36 23/63")) 10 2
  -- with 22 for 23 ticks the parts of task 0 leave out a tick of its cost: miscount at that task
  pub a_missing_tick_is_a_miscount : CheckerRefuses (three_tasks ++ four_parts (codes "A 60/120 60/150 37/37 22/63")) 8 0
  -- with 64 for 63 the windows of task 0 are longer than its period: overlap at that task
  pub windows_above_the_period_overlap : CheckerRefuses (three_tasks ++ four_parts (codes "A 60/120 60/150 37/37 23/64")) 9 0
  -- in 10 ticks a task of period 10 is released once: the second task is done in them, just before the first one's second release
  pub a_period_admits_one_release : CheckerAccepts (two_tasks (codes "P 10 14") (codes "C 5 5") (codes "A 5/10 5/14")) (5 ∷ 10 ∷ [])
  -- the second task needs all of its window
  pub a_response_time_may_fill_its_window : CheckerAccepts full_pair (5 ∷ 16 ∷ [])
  -- with a window a tick shorter it is late: at part 1
  pub a_window_a_tick_shorter_is_late : CheckerRefuses (two_tasks (codes "P 10 16") (codes "C 5 6") (codes "A 5/10 6/15")) 10 1
  -- ticks 0 to 4 run task 0, ticks 5 to 9 task 1; a release of task 0 is too soon at time 9 and taken at time 10; ticks 10 to 14 run
  -- task 0, and tick 15 the last of task 1
  pub a_release_waits_for_its_period : MachineAnswers full_pair two_releases
      (taken ∷ taken ∷ (run 5 0 ++ (run 4 1 ++ (refused 14 0 ∷ (run 1 1 ++ (taken ∷ (run 5 0 ++ run 1 1)))))))
