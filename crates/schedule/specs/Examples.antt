-- Worked examples, small enough to be followed by hand: what the definitions say of three plans.
use Rattle.std.specs.Prelude.{◌≡◌, ℕ, ◌+◌, ◌-◌, ◌/◌, Bool, ◌&&◌, ◌||◌, List, [], ◌∷◌, ◌++◌, map, length, get_or, replicate, ◌==◌, nat_lt, slice_index_or}
use Rattle.schedule.specs.declared.Part.{Part}
use Rattle.schedule.specs.Layout.{System, LaidOut, InTime, Response}
use Rattle.schedule.specs.TickRule.{Call, release, finish, tick, Answer, taken, ran, refused, history, started}
use Rattle.schedule.specs.Promise.{SomeLate}

-- A part by its task, its processor, its cost and its window.
abbrev pub part : ℕ → ℕ → ℕ → ℕ → Part
part t p c w = record { task = t; processor = p; cost = c; window = w }

-- The order that puts the smaller period first, and of equal periods the smaller number.
abbrev pub shorter_first : List ℕ → ℕ → ℕ → Bool
shorter_first periods a b =
    let s = get_or periods a 1 in
    let t = get_or periods b 1 in
    nat_lt s t || (s == t && nat_lt a b)

-- The plan of some parts for tasks of the given periods and costs on m processors; any period of a task admits one release.
abbrev pub planned : List ℕ → List ℕ → ℕ → List Part → System
planned periods costs m parts = record {
  tasks = length periods;
  procs = m;
  costs = λ i. slice_index_or costs i 1;
  parts = parts;
  before = shorter_first periods;
  curve = λ i L. (L + slice_index_or periods i 1 - 1) / slice_index_or periods i 1;
}

-- What a list of calls answers from the start of a plan.
abbrev pub answered : System → List Call → List Answer
answered sys cs = map (λ e. e.1) (history sys (started sys) cs)

-- n ticks, each with room for the bytes of m processors.
abbrev pub ticks : ℕ → ℕ → List Call
ticks m n = replicate n (tick m)

-- n taken ticks that all answer the same bytes.
abbrev pub run : ℕ → List ℕ → List Answer
run n bs = replicate n (ran bs)

-- Two tasks of periods 10 and 16 and costs 5 and 6, both whole on one processor; the second has a window of w ticks.
abbrev pub pair : ℕ → System
pair w = planned (10 ∷ 16 ∷ []) (5 ∷ 6 ∷ []) 1 (part 0 0 5 10 ∷ part 1 0 6 w ∷ [])

-- Both released at once, and task 0 again at time 9, which is too soon, and at time 10; then n ticks more.
abbrev pub both_at_once : ℕ → List Call
both_at_once n = release 0 ∷ release 1 ∷ (ticks 1 9 ++ (release 0 ∷ (ticks 1 1 ++ (release 0 ∷ ticks 1 n))))

-- Two tasks of periods 10 and 12 and costs 5 and 5 on two processors: task 0 is cut, its first part on processor 1, its second on
-- processor 0, where task 1 is.
abbrev pub cut : System
cut = planned (10 ∷ 12 ∷ []) (5 ∷ 5 ∷ []) 2 (part 0 1 3 4 ∷ part 0 0 2 6 ∷ part 1 0 5 12 ∷ [])

pub record Worked : Type 0 where
  -- with a window of 16 the pair passes every check, with response times 5 and 16
  pub pair_laid_out : LaidOut (pair 16)
  pub pair_in_time : InTime (pair 16)
  pub pair_first : Response (pair 16) (part 0 0 5 10) 5
  pub pair_second : Response (pair 16) (part 1 0 6 16) 16
  -- ticks 0 to 4 run task 0, 5 to 9 task 1; its second release is too soon at time 9 and taken at time 10; ticks 10 to 14 run task 0, tick 15 task 1
  pub pair_answers : answered (pair 16) (both_at_once 6)
      ≡ taken ∷ taken ∷ (run 5 (0 ∷ []) ++ (run 4 (1 ∷ []) ++ (refused 14 0 ∷ (run 1 (1 ∷ []) ++ (taken ∷ (run 5 (0 ∷ []) ++ run 1 (1 ∷ [])))))))
  -- with a window of 15 it passes the checks before lateness, has no response time for its second part, and these calls make it late
  pub short_laid_out : LaidOut (pair 15)
  pub short_overloaded : InTime (pair 15) → ⊥
  pub short_late : SomeLate (pair 15) (history (pair 15) (started (pair 15)) (both_at_once 5))
  -- a part that is late loses what is left: the tick after its window runs nothing
  pub short_loses : answered (pair 15) (both_at_once 6)
      ≡ taken ∷ taken ∷ (run 5 (0 ∷ []) ++ (run 4 (1 ∷ []) ++ (refused 14 0 ∷ (run 1 (1 ∷ []) ++ (taken ∷ (run 5 (0 ∷ []) ++ run 1 (255 ∷ [])))))))
  -- a finished job runs no more; a finish without a job, an unknown task and a short buffer are refused, and change nothing
  pub pair_refusals : answered (pair 16) (release 0 ∷ tick 1 ∷ finish 0 ∷ finish 0 ∷ release 2 ∷ finish 3 ∷ tick 0 ∷ tick 1 ∷ release 0 ∷ [])
      ≡ taken ∷ ran (0 ∷ []) ∷ taken ∷ refused 15 0 ∷ refused 13 2 ∷ refused 13 3 ∷ refused 17 1 ∷ ran (255 ∷ []) ∷ refused 14 0 ∷ []
  -- the cut plan passes every check
  pub cut_laid_out : LaidOut cut
  pub cut_in_time : InTime cut
  -- the second part of task 0 starts at its begin, in tick 4, though the first is done after tick 2; then it goes before task 1
  pub cut_answers : answered cut (release 0 ∷ release 1 ∷ ticks 2 8)
      ≡ taken ∷ taken ∷ (run 3 (1 ∷ 0 ∷ []) ++ (run 1 (1 ∷ 255 ∷ []) ++ (run 2 (0 ∷ 255 ∷ []) ++ (run 1 (1 ∷ 255 ∷ []) ++ run 1 (255 ∷ 255 ∷ [])))))
