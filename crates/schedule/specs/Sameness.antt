-- When two states, or two systems, cannot be told apart by any call.
use Rattle.std.specs.Prelude.{◌≡◌, ℕ, ◌<◌, ◌≤◌}
use Rattle.schedule.specs.Layout.{System}
use Rattle.schedule.specs.TickRule.{State}

-- Two states agree in what calls can see: the clock, the jobs, and the room of the system's tasks for one tick or more.
pub record Same (sys : System) (a b : State) : Type 0 where
  pub clock : a.clock ≡ b.clock
  pub room : (i L : ℕ) → i < sys.tasks → 1 ≤ L → a.room i L ≡ b.room i L
  pub jobs : a.jobs ≡ b.jobs

-- Two systems agree in their counts and parts, and at the tasks of the system in costs, order and curves.
pub record Alike (a b : System) : Type 0 where
  pub tasks : a.tasks ≡ b.tasks
  pub procs : a.procs ≡ b.procs
  pub parts : a.parts ≡ b.parts
  pub costs : (i : ℕ) → i < a.tasks → a.costs i ≡ b.costs i
  pub before : (i k : ℕ) → i < a.tasks → k < a.tasks → a.before i k ≡ b.before i k
  pub curve : (i L : ℕ) → i < a.tasks → a.curve i L ≡ b.curve i L
