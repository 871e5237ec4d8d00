-- A plan laid out in time: the segments of each task, the priority order and the arrival curves.
use Rattle.std.specs.Prelude.{◌≡◌, ℕ, ◌+◌, ◌*◌, ◌<◌, ◌≤◌, Bool, cond, ◌&&◌, List, [], ◌∷◌, ◌++◌, length, ◌==◌, ◌≢◌}
use Rattle.schedule.specs.declared.Part.{Part}
use Rattle.schedule.specs.Lists.{◌∈◌, total}
use Rattle.schedule.specs.Orders.{Ordered}
use Rattle.schedule.specs.Curves.{Curve}

-- A part with its window placed in the life of its job: it may run from `begin` up to, and not at, `end`,
-- both counted in ticks from the release.
pub record Segment : Type 0 where
  pub proc : ℕ
  pub cost : ℕ
  pub begin : ℕ
  pub end : ℕ

-- The segments of task i in the order of the plan, the first beginning at b: each window starts where the one before it ends.
abbrev pub segments_from : ℕ → ℕ → List Part → List Segment
segments_from i b [] = []
segments_from i b (p ∷ ps) =
    let rest = segments_from i b ps in
    let next = segments_from i (b + p.window) ps in
    cond (p.task == i) (record { proc = p.processor; cost = p.cost; begin = b; end = b + p.window } ∷ next) rest

-- The segments of task i: its first window begins at the release.
abbrev pub segments : List Part → ℕ → List Segment
segments ps i = segments_from i 0 ps

-- The sum of a task's windows, where its last window ends.
abbrev pub span_of : List Part → ℕ → ℕ
span_of ps i = total (λ p. cond (p.task == i) p.window 0) ps

-- The sum of the costs of a task's parts.
abbrev pub work_of : List Part → ℕ → ℕ
work_of ps i = total (λ p. cond (p.task == i) p.cost 0) ps

-- What a plan runs under: the number of tasks and processors, what a job of each task has to run, the parts of
-- the plan, which task goes before which, and how many releases of a task any L successive ticks may admit.
pub record System : Type 0 where
  pub tasks : ℕ
  pub procs : ℕ
  pub costs : ℕ → ℕ
  pub parts : List Part
  pub before : ℕ → ℕ → Bool
  pub curve : ℕ → ℕ → ℕ

-- Part p can keep part q waiting: it is on q's processor, and its task goes before q's.
abbrev pub interferes : System → Part → Part → Bool
interferes sys q p = p.processor == q.processor && sys.before p.task q.task

-- What part q and all that can keep it waiting may need in t successive ticks.
abbrev pub demand : System → Part → ℕ → ℕ
demand sys q t = q.cost + total (λ p. cond (interferes sys q p) (sys.curve p.task t * p.cost) 0) sys.parts

-- t ticks, no more than its window, suffice for part q and all that can keep it waiting.
abbrev pub Suffices : System → Part → ℕ → Type 0
Suffices sys q t = (1 ≤ t) × (t ≤ q.window) × (demand sys q t ≤ t)

-- The response time of part q is the least t that suffices.
abbrev pub Response : System → Part → ℕ → Type 0
Response sys q t = Suffices sys q t × ((u : ℕ) → u < t → Suffices sys q u → ⊥)

-- For every part some t suffices; there is then a least one, so every part has a response time.
abbrev pub InTime : System → Type 0
InTime sys = (q : Part) → q ∈ sys.parts → (t : ℕ) × Suffices sys q t

-- What the checks before the lateness check establish, with the laws of the order and of the curves.
pub record LaidOut (sys : System) : Type 0 where
  pub few_tasks : sys.tasks ≤ 32
  pub few_parts : length sys.parts ≤ 64
  pub ordered : Ordered sys.tasks sys.before
  pub curves : (i : ℕ) → i < sys.tasks → Curve (sys.curve i)
  -- each part names a task and a processor of the system, and has a cost and a window on the scale
  pub known : (p : Part) → p ∈ sys.parts → (p.task < sys.tasks) × (p.processor < sys.procs)
  pub scaled : (p : Part) → p ∈ sys.parts → (1 ≤ p.cost) × (1 ≤ p.window) × (p.window ≤ 100000)
  -- no task has two parts on one processor
  pub apart : (xs ys zs : List Part) (p q : Part) → sys.parts ≡ xs ++ (p ∷ (ys ++ (q ∷ zs))) → p.task ≡ q.task → p.processor ≢ q.processor
  -- each task has work to do
  pub working : (i : ℕ) → i < sys.tasks → 1 ≤ sys.costs i
  -- the costs of a task's parts add up to its cost
  pub summed : (i : ℕ) → i < sys.tasks → work_of sys.parts i ≡ sys.costs i
  -- no second release of a task can be admitted before its last window has ended
  pub exclusive : (i : ℕ) → i < sys.tasks → sys.curve i (span_of sys.parts i) ≤ 1
