-- What a machine started from an accepted plan keeps, read off its calls and answers alone.
use Rattle.std.specs.Prelude.{◌≡◌, ℕ, zero, suc, ◌<◌, ◌≤◌, Bool, true, false, cond, ◌||◌, List, [], ◌∷◌, ◌++◌, ◌==◌, ◌≢◌, slice_index_or}
use Rattle.schedule.specs.Lists.{◌∈◌, total, below, one_if}
use Rattle.schedule.specs.Layout.{Segment, System, LaidOut, InTime, segments, span_of}
use Rattle.schedule.specs.Curves.{Subadditive}
use Rattle.schedule.specs.TickRule.{Call, release, finish, tick, Answer, taken, ran, refused, Event, History, history, started}

-- 1 for a tick that was taken, else 0.
abbrev pub ticks_in : Event → ℕ
ticks_in e = elim e.1 [ taken ↦ 0 | ran bs ↦ 1 | refused k at ↦ 0 ]

-- The answer to a release or a finish that was taken.
abbrev pub was_taken : Answer → Bool
was_taken taken = true
was_taken (ran bs) = false
was_taken (refused k at) = false

-- The event is a release of task i that was taken.
abbrev pub releases : ℕ → Event → Bool
releases i e = elim e.0 [ release k ↦ cond (k == i) (was_taken e.1) false | finish k ↦ false | tick r ↦ false ]

-- The event is a finish of task i that was taken.
abbrev pub finishes : ℕ → Event → Bool
finishes i e = elim e.0 [ release k ↦ false | finish k ↦ cond (k == i) (was_taken e.1) false | tick r ↦ false ]

-- Time is the count of the ticks taken.
abbrev pub time : History → ℕ
time h = total ticks_in h

-- The answer of a tick that was taken, or no bytes.
abbrev pub bytes : Event → List ℕ
bytes e = elim e.1 [ taken ↦ [] | ran bs ↦ bs | refused k at ↦ [] ]

-- How often the ticks of a history name task i on processor p.
abbrev pub runs_at : ℕ → ℕ → History → ℕ
runs_at i p h = total (λ e. one_if (slice_index_or (bytes e) p 255 == i)) h

-- How often the ticks of a history name task i on the first m processors.
abbrev pub runs : ℕ → ℕ → History → ℕ
runs m i h = total (λ p. runs_at i p h) (below m)

-- The life of a job, from what follows its release: up to the task's next taken release.
abbrev pub life : ℕ → History → History
life i [] = []
life i (e ∷ es) =
    let rest = life i es in
    cond (releases i e) [] (e ∷ rest)

-- The beginning of a history up to the moment when d ticks have been taken.
abbrev pub until : ℕ → History → History
until zero es = []
until (suc d) [] = []
until (suc d) (e ∷ es) =
    let rest = until d es in
    let same = until (suc d) es in
    e ∷ cond (ticks_in e == 1) rest same

-- A finish of task i was taken.
abbrev pub finished_in : ℕ → History → Bool
finished_in i [] = false
finished_in i (e ∷ es) = finishes i e || finished_in i es

-- In history h a job of task i was made, and `after` is what followed its release.
abbrev pub Released : ℕ → History → History → Type 0
Released i h after = (earlier : History) × (h ≡ earlier ++ ((release i, taken) ∷ after))

-- Segment g of that job is late: time reached its end, the job was not finished early by then, and g had run
-- less than its cost.
pub record Late (i : ℕ) (g : Segment) (after : History) : Type 0 where
  pub reached : g.end ≤ time after
  pub unfinished : finished_in i (life i (until g.end after)) ≡ false
  pub short : runs_at i g.proc (life i (until g.end after)) < g.cost

-- A part is late somewhere in the history.
abbrev pub SomeLate : System → History → Type 0
SomeLate sys h = (i : ℕ) × (g : Segment) × (after : History) × (i < sys.tasks) × (g ∈ segments sys.parts i) × Released i h after × Late i g after

-- A tick of the history ran task i on processor p, with `earlier` before it.
abbrev pub Ran : ℕ → ℕ → History → History → Type 0
Ran i p earlier h = (r : ℕ) × (bs : List ℕ) × (rest : History) × (h ≡ earlier ++ ((tick r, ran bs) ∷ rest)) × (slice_index_or bs p 255 ≡ i)

-- The promise, said of a history.
pub record Kept (sys : System) (h : History) : Type 0 where
  -- no part is late
  pub never_late : SomeLate sys h → ⊥
  -- a task runs only inside the window of a part that it has on that processor, in its latest job, not yet finished
  pub inside : (i p : ℕ) (earlier : History) → (i ≢ 255) → p < sys.procs → Ran i p earlier h →
      (g : Segment) × (recent : History) × (i < sys.tasks) × (g ∈ segments sys.parts i) × (g.proc ≡ p) × Released i earlier recent
      × (life i recent ≡ recent) × (finished_in i (life i recent) ≡ false) × (g.begin ≤ time recent) × (time recent < g.end)
  -- the parts of a job run in order: when one runs, those before it have run their cost
  pub in_order : (i : ℕ) (after earlier : History) (front back : List Segment) (f g : Segment) → i < sys.tasks →
      Released i h after → Ran i g.proc earlier (life i after) →
      segments sys.parts i ≡ front ++ (g ∷ back) → f ∈ front → runs_at i f.proc earlier ≡ f.cost
  -- and when one runs, those after it have not run yet
  pub not_yet : (i : ℕ) (after earlier : History) (front back : List Segment) (b g : Segment) → i < sys.tasks →
      Released i h after → Ran i g.proc earlier (life i after) →
      segments sys.parts i ≡ front ++ (g ∷ back) → b ∈ back → runs_at i b.proc earlier ≡ 0
  -- no task runs on two processors in one tick
  pub alone : (i p q : ℕ) (earlier : History) → i < sys.tasks → p < sys.procs → q < sys.procs →
      Ran i p earlier h → Ran i q earlier h → p ≡ q
  -- once its last window has passed, a job not finished early has run just its cost
  pub exact : (i : ℕ) (after : History) → i < sys.tasks → Released i h after →
      span_of sys.parts i ≤ time after → finished_in i (life i (until (span_of sys.parts i) after)) ≡ false →
      runs sys.procs i (life i after) ≡ sys.costs i
  -- no job runs more than its cost
  pub no_more : (i : ℕ) (after : History) → i < sys.tasks → Released i h after → runs sys.procs i (life i after) ≤ sys.costs i
  -- and no part of a job runs more than the part's cost
  pub no_part_more : (i : ℕ) (g : Segment) (after : History) → i < sys.tasks → g ∈ segments sys.parts i → Released i h after →
      runs_at i g.proc (life i after) ≤ g.cost

-- The promise is kept in a history and in each of its beginnings.
abbrev pub KeptThroughout : System → History → Type 0
KeptThroughout sys h = (front back : History) → h ≡ front ++ back → Kept sys front

-- Whatever is called, in whatever turn, on a machine started from a plan whose parts all have response times:
-- the promise is kept.
abbrev pub Sound : Type 0
Sound = (sys : System) → LaidOut sys → InTime sys → (cs : List Call) → Kept sys (history sys (started sys) cs)

-- A call that any real caller can make: on the set's own tasks, with a buffer of just the size.
abbrev pub Plain : System → Call → Type 0
Plain sys (release i) = i < sys.tasks
Plain sys (finish i) = i < sys.tasks
Plain sys (tick size) = size ≡ sys.procs

-- A plan that passes the earlier checks has a part without a response time exactly when some calls make a part late;
-- plain calls do it then.
abbrev pub Exact : Type 0
Exact = (sys : System) → LaidOut sys → ((i : ℕ) → i < sys.tasks → Subadditive (sys.curve i)) →
    ((InTime sys → ⊥) → (cs : List Call) × SomeLate sys (history sys (started sys) cs) × ((c : Call) → c ∈ cs → Plain sys c))
    × ((cs : List Call) → SomeLate sys (history sys (started sys) cs) → InTime sys → ⊥)
