-- The tick rule: what release, finish and tick do, and what they answer.
use Rattle.std.specs.Prelude.{ℕ, zero, suc, ◌+◌, ◌-◌, ◌^◌, min, Bool, true, false, cond, not, ◌&&◌, List, [], ◌∷◌, map, ◌==◌, nat_le, nat_lt, slice_index_or, slice_set}
use Rattle.schedule.specs.Lists.{total, below, one_if}
use Rattle.schedule.specs.Layout.{Segment, System, segments}

-- A job: closed, or open with its age, what is left of the cost of its present segment, and that segment
-- with the ones after it.
pub data Job : Type 0 where
  closed : Job
  open_at : (age left : ℕ) (now : Segment) (later : List Segment) → Job

-- What the machine holds: the clock, how many releases of each task the next L ticks may still admit, and a
-- job for each task.
pub record State : Type 0 where
  pub clock : ℕ
  pub room : ℕ → ℕ → ℕ
  pub jobs : List Job

-- The job of task i, closed where there is none.
abbrev pub job : State → ℕ → Job
job s i = slice_index_or s.jobs i closed

-- n closed jobs.
abbrev pub all_closed : ℕ → List Job
all_closed zero = []
all_closed (suc n) = closed ∷ all_closed n

-- A machine that has just been started: clock 0, every curve's whole room, no job open.
abbrev pub started : System → State
started sys = record { clock = 0; room = sys.curve; jobs = all_closed sys.tasks }

-- The job is ready on processor p: its segment is on p, has begun and has cost left.
abbrev pub ready_on : ℕ → Job → Bool
ready_on p closed = false
ready_on p (open_at age left now later) = now.proc == p && (nat_le now.begin age && nat_lt 0 left)

-- The rank of a task: how many tasks of the system go before it.
abbrev pub rank : System → ℕ → ℕ
rank sys i = total (λ j. one_if (sys.before j i)) (below sys.tasks)

-- Of some tasks, the one of lowest rank, or 255 where there are none (a byte that names no task).
abbrev pub lowest : System → List ℕ → ℕ
lowest sys [] = 255
lowest sys (i ∷ is) =
    let rest = lowest sys is in
    cond (rest == 255) i (cond (nat_lt (rank sys rest) (rank sys i)) rest i)

-- The tasks of a list whose jobs are ready on p.
abbrev pub ready_tasks : State → ℕ → List ℕ → List ℕ
ready_tasks s p [] = []
ready_tasks s p (i ∷ is) =
    let rest = ready_tasks s p is in
    cond (ready_on p (job s i)) (i ∷ rest) rest

-- The task that processor p runs in this tick, or 255.
abbrev pub runs_on : System → State → ℕ → ℕ
runs_on sys s p = lowest sys (ready_tasks s p (below sys.tasks))

-- The answer to a tick: a byte for each processor.
abbrev pub answer : System → State → List ℕ
answer sys s = map (runs_on sys s) (below sys.procs)

-- The segment is over: the job goes on with the next one, or closes.
abbrev pub hand_over : ℕ → List Segment → Job
hand_over age [] = closed
hand_over age (g ∷ gs) = open_at age g.cost g gs

-- A job after a tick in which it ran, or did not. A segment with cost left at its end is late: it loses that cost.
abbrev pub aged : Bool → Job → Job
aged ran closed = closed
aged ran (open_at age left now later) =
    let over = hand_over (age + 1) later in
    let rest = open_at (age + 1) (left - one_if ran) now later in
    cond (left - one_if ran == 0) over (cond (age + 1 == now.end) over rest)

-- The job of task i ran in this tick: the processor of its segment named it.
abbrev pub ran_in : System → State → ℕ → Job → Bool
ran_in sys s i closed = false
ran_in sys s i (open_at age left now later) = runs_on sys s now.proc == i

-- The jobs of tasks i and following after the tick.
abbrev pub aged_from : System → State → ℕ → List Job → List Job
aged_from sys s i [] = []
aged_from sys s i (j ∷ js) = aged (ran_in sys s i j) j ∷ aged_from sys s (suc i) js

-- The state after a tick: the clock is one further, every task's room is what is left of it, and every open job is a tick older.
abbrev pub ticked : System → State → State
ticked sys s = record {
  clock = s.clock + 1;
  room = λ i L. min (s.room i (L + 1)) (sys.curve i L);
  jobs = aged_from sys s 0 s.jobs;
}

-- The job that a release opens: of age 0, at its task's first segment, with that one's cost left.
abbrev pub opened : System → ℕ → Job
opened sys i = hand_over 0 (segments sys.parts i)

-- The state after a release of task i was admitted: its room falls by one for every length, and its job opens.
abbrev pub released : System → State → ℕ → State
released sys s i = record {
  clock = s.clock;
  room = λ k L. cond (k == i) (s.room k L - 1) (s.room k L);
  jobs = slice_set s.jobs i (opened sys i);
}

-- The state after a finish of task i: its job is closed.
abbrev pub finished : State → ℕ → State
finished s i = record { clock = s.clock; room = s.room; jobs = slice_set s.jobs i closed }

-- The job is closed.
abbrev pub is_closed : Job → Bool
is_closed closed = true
is_closed (open_at age left now later) = false

-- The calls of a machine; a tick brings the size of its answer buffer.
pub data Call : Type 0 where
  release : ℕ → Call
  finish : ℕ → Call
  tick : ℕ → Call

-- What a call answers: taken, the bytes of a tick that is taken, or refused by a number with a place.
pub data Answer : Type 0 where
  taken : Answer
  ran : List ℕ → Answer
  refused : ℕ → ℕ → Answer

-- The clock at which a machine takes no more ticks.
abbrev pub last_clock : ℕ
last_clock = 2 ^ 40

-- What a call answers in a state. Refusals: 13 unknown task, 14 too soon, 15 no job to finish, 16 clock worn out, 17 buffer too short.
abbrev pub answers : System → State → Call → Answer
answers sys s (release i) = cond (not (nat_lt i sys.tasks)) (refused 13 i) (cond (s.room i 1 == 0) (refused 14 i) taken)
answers sys s (finish i) = cond (not (nat_lt i sys.tasks)) (refused 13 i) (cond (is_closed (job s i)) (refused 15 i) taken)
answers sys s (tick size) =
    cond (nat_le last_clock s.clock) (refused 16 0) (cond (nat_lt size sys.procs) (refused 17 sys.procs) (ran (answer sys s)))

-- What a call leaves, by what it answered: a refusal changes nothing.
abbrev pub leaves : System → State → Call → Answer → State
leaves sys s (release i) taken = released sys s i
leaves sys s (release i) (ran bs) = s
leaves sys s (release i) (refused k at) = s
leaves sys s (finish i) taken = finished s i
leaves sys s (finish i) (ran bs) = s
leaves sys s (finish i) (refused k at) = s
leaves sys s (tick size) taken = s
leaves sys s (tick size) (ran bs) = ticked sys s
leaves sys s (tick size) (refused k at) = s

-- The state after a call.
abbrev pub after_call : System → State → Call → State
after_call sys s c = leaves sys s c (answers sys s c)

-- An event: a call with its answer.
abbrev pub Event : Type 0
Event = Call × Answer

-- A history: the events of a machine since its start, oldest first.
abbrev pub History : Type 0
History = List Event

-- The history of a list of calls made from a state.
abbrev pub history : System → State → List Call → History
history sys s [] = []
history sys s (c ∷ cs) = (c, answers sys s c) ∷ history sys (after_call sys s c) cs

-- The state that a list of calls leaves.
abbrev pub state_after : System → State → List Call → State
state_after sys s [] = s
state_after sys s (c ∷ cs) = state_after sys (after_call sys s c) cs
