-- SPA2 in whole numbers: how the parts of a task set are placed on processors.
use Rattle.std.specs.Prelude.{◌≡◌, ℕ, zero, suc, ◌+◌, ◌-◌, ◌*◌, ◌<◌, ◌≤◌, Bool, cond, ◌&&◌, List, [], ◌∷◌, ◌++◌, length, replicate, Some, None, Ok, Err, Option, Result, nat_le, slice_index_or, slice_set}
use Rattle.schedule.specs.declared.Part.{Part}
use Rattle.schedule.specs.Lists.{total, one_if}
use Rattle.parts.specs.declared.fault.PlanFault.{PlanFault}
use Rattle.parts.specs.declared.fault.PlanFault.TheVariants.{Unplaced}
use Rattle.tasks.specs.declared.set.TaskSet.{TaskSet}
use Rattle.tasks.specs.Sets.{count_of, period_of, cost_of}
use Rattle.spa2.specs.declared.piece.Piece.{Piece}
use Rattle.spa2.specs.declared.state.Standing.TheVariants.{Open, Reserved, Full}
use Rattle.spa2.specs.declared.state.Processor.{Processor}
use Rattle.spa2.specs.declared.state.Choice.{Choice}
use Rattle.spa2.specs.declared.state.Choice.TheVariants.{Normal, Spare}
use Rattle.spa2.specs.declared.state.seats.Seat.{Seat}
use Rattle.spa2.specs.Choices.{is_open, least_loaded_seat}
use Rattle.spa2.specs.Loads.{load_of, heavy, cut_of}
use Rattle.spa2.specs.Thetas.{theta_of}

-- The tasks to be placed, as numbers.
pub record Tasks : Type 0 where
  pub count : ℕ
  pub period : ℕ → ℕ
  pub cost : ℕ → ℕ

abbrev pub tasks_of : TaskSet → Tasks
tasks_of s = record { count = count_of s; period = period_of s; cost = cost_of s }

-- The load of a task, and the threshold of the set.
abbrev pub load_at : Tasks → ℕ → ℕ
load_at t i = load_of (t.cost i) (t.period i)

abbrev pub threshold : Tasks → ℕ
threshold t = theta_of t.count

-- The loads of the tasks from i on, n of them, and of those that follow task i.
abbrev pub loads_from : Tasks → ℕ → ℕ → ℕ
loads_from t i zero = 0
loads_from t i (suc n) = load_at t i + loads_from t (i + 1) n

abbrev pub followers : Tasks → ℕ → ℕ
followers t i = loads_from t (i + 1) (t.count - (i + 1))

-- The processors, the pieces to be placed, the numbers of the processors in reserve, both with the front first, and the parts
-- placed so far.
pub record State : Type 0 where
  pub processors : List Processor
  pub pieces : List Piece
  pub reserve : List ℕ
  pub parts : List Part

-- The same but for the pieces, the reserve or the parts.
abbrev pub with_pieces : State → List Piece → State
with_pieces s xs = record s { pieces = xs }

abbrev pub with_reserve : State → List ℕ → State
with_reserve s ps = record s { reserve = ps }

abbrev pub with_parts : State → List Part → State
with_parts s ps = record s { parts = ps }

-- Nothing has been placed on m processors.
abbrev pub started : ℕ → State
started m = record { processors = replicate m (record { load = 0; standing = Open }); pieces = []; reserve = []; parts = [] }

-- A part as it is placed: its window comes later.
abbrev pub placed : ℕ → ℕ → ℕ → Part
placed task processor cost = record { task = task; processor = processor; cost = cost; window = 0 }

-- Step 1: task i is placed beforehand where it is heavy and a processor is left, and those left after it can take the loads of
-- its followers.
abbrev pub free : State → ℕ
free s = length s.processors - length s.reserve

abbrev pub goes_beforehand : Tasks → State → ℕ → Bool
goes_beforehand t s i =
    heavy (threshold t) (load_at t i) && (nat_le 1 (free s) && nat_le (followers t i) ((free s - 1) * threshold t))

-- It takes the smallest processor that is not taken, which goes to the front of the reserve. As processors are taken in turn, its
-- number is that of those taken.
abbrev pub beforehand : Tasks → State → ℕ → State
beforehand t s i = record s {
  processors = slice_set s.processors (length s.reserve) (record { load = load_at t i; standing = Reserved });
  reserve = length s.reserve ∷ s.reserve;
  parts = s.parts ++ (placed i (length s.reserve) (t.cost i) ∷ []);
}

-- Every other task goes to the front of the pieces.
abbrev pub pieced : Tasks → State → ℕ → State
pieced t s i = record s { pieces = record { task = i; cost = t.cost i } ∷ s.pieces }

abbrev pub visited : Tasks → State → ℕ → State
visited t s i = cond (goes_beforehand t s i) (beforehand t s i) (pieced t s i)

-- The tasks from i on, n of them, are visited in turn.
abbrev pub visited_from : Tasks → State → ℕ → ℕ → State
visited_from t s i zero = s
visited_from t s i (suc n) = visited_from t (visited t s i) (i + 1) n

-- Of i tasks visited, each is a piece or was placed on a processor of its own, which is in reserve.
pub record Visiting (s : State) (i : ℕ) : Type 0 where
  pub listed : length s.parts ≡ length s.reserve
  pub seated : length s.reserve ≤ length s.processors
  pub each : length s.pieces + length s.reserve ≡ i

-- Step 2: a piece goes to the least loaded open processor, and where there is none to the front of the reserve.
abbrev pub front_of : List ℕ → Option Choice
front_of [] = None
front_of (p ∷ ps) = Some (Spare p)

abbrev pub choice_of : Option Seat → List ℕ → Option Choice
choice_of None ps = front_of ps
choice_of (Some seat) ps = Some (Normal seat.number)

abbrev pub chosen : State → Option Choice
chosen s = choice_of (least_loaded_seat s.processors) s.reserve

-- The chosen processor's number, and the reserve once the choice is made.
abbrev pub number_of : Choice → ℕ
number_of (Normal p) = p
number_of (Spare p) = p

abbrev pub others : List ℕ → List ℕ
others [] = []
others (p ∷ ps) = ps

abbrev pub reserve_after : Choice → List ℕ → List ℕ
reserve_after (Normal p) ps = ps
reserve_after (Spare p) ps = others ps

-- A processor from the reserve returns to its front.
abbrev pub returned : Choice → List ℕ → List ℕ
returned (Normal p) ps = ps
returned (Spare p) ps = p ∷ ps

-- A piece can be placed on the chosen processor: it is there, and there is room for a part, for what a cut leaves, and in reserve.
pub record Ready (s : State) (c : Choice) : Type 0 where
  pub known : number_of c < length s.processors
  pub listable : length s.parts < 64
  pub cuttable : length s.pieces < 32
  pub returnable : length (returned c s.reserve) ≤ 8

-- A processor of a state; past the last there is one with no load.
abbrev pub processor_at : State → ℕ → Processor
processor_at s p = slice_index_or s.processors p (record { load = 0; standing = Open })

-- Step 3: the piece fits whole.
abbrev pub fits_whole : Tasks → State → Piece → ℕ → Bool
fits_whole t s x p = nat_le ((processor_at s p).load + load_of x.cost (t.period x.task)) (threshold t)

abbrev pub whole : Tasks → State → Piece → Choice → State
whole t s x c =
    let p = number_of c in
    record s {
      processors = slice_set s.processors p (record (processor_at s p) { load = (processor_at s p).load + load_of x.cost (t.period x.task) });
      reserve = returned c s.reserve;
      parts = s.parts ++ (placed x.task p x.cost ∷ []);
    }

-- The cost that is cut off, the parts with it where it is 1 or more, and what is left.
abbrev pub cut_at : Tasks → State → Piece → ℕ → ℕ
cut_at t s x p = cut_of (threshold t) (processor_at s p).load (t.period x.task)

abbrev pub with_cut : ℕ → ℕ → ℕ → List Part → List Part
with_cut task p c ps = cond (nat_le 1 c) (ps ++ (placed task p c ∷ [])) ps

-- Else it is cut: the processor is full, and what is left goes in front.
abbrev pub split : Tasks → State → Piece → Choice → State
split t s x c =
    let p = number_of c in
    record s {
      processors = slice_set s.processors p (record { load = (processor_at s p).load + load_of (cut_at t s x p) (t.period x.task); standing = Full });
      pieces = record x { cost = x.cost - cut_at t s x p } ∷ s.pieces;
      parts = with_cut x.task p (cut_at t s x p) s.parts;
    }

abbrev pub settled : Tasks → State → Piece → Choice → State
settled t s x c = cond (fits_whole t s x (number_of c)) (whole t s x c) (split t s x c)

-- The state once its processor is chosen: one of the reserve is taken from there.
abbrev pub after_choice : State → Choice → State
after_choice s c = with_reserve s (reserve_after c s.reserve)

-- A turn: a processor is chosen for piece x and the piece is settled there; none where there is no processor.
abbrev pub settled_by : Tasks → State → Piece → Option Choice → Option State
settled_by t s x None = None
settled_by t s x (Some c) = Some (settled t (after_choice s c) x c)

abbrev pub turn : Tasks → State → Piece → Option State
turn t s x = settled_by t s x (chosen s)

-- The parts that a state has listed, where it has no piece left; else its front piece is unplaced.
abbrev pub closed : List Piece → List Part → Result (List Part) PlanFault
closed [] ps = Ok ps
closed (x ∷ xs) ps = Err (Unplaced x.task)

-- At most so many turns, each with the front piece.
abbrev pub turns : Tasks → ℕ → State → Result (List Part) PlanFault
turns t zero s = closed s.pieces s.parts
turns t (suc k) s =
    elim s.pieces [
      | [] ↦ Ok s.parts
      | x ∷ xs ↦ elim (turn t (with_pieces s xs) x) [ None ↦ Err (Unplaced x.task) | Some next ↦ turns t k next ]
    ]

-- The parts of the tasks on m processors, without windows, or the task that has no place. Each turn places a piece whole or fills a
-- processor, so that there are no more turns than tasks and processors.
abbrev pub parts_placed : Tasks → ℕ → Result (List Part) PlanFault
parts_placed t m = turns t (t.count + m) (visited_from t (started m) 0 t.count)

-- How many turns a state has before it at the most: one for each piece, for each open processor and for each in reserve.
abbrev pub opens : List Processor → ℕ
opens xs = total (λ x. one_if (is_open x.standing)) xs

abbrev pub weight : State → ℕ
weight s = length s.pieces + (opens s.processors + length s.reserve)

-- What a call that fills the processors answers, with the parts that it leaves.
abbrev pub outcome : Result (Unit {0}) PlanFault → List Part → Result (List Part) PlanFault
outcome (Ok u) ps = Ok ps
outcome (Err e) ps = Err e
