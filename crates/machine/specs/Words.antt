-- Words of bits, and what a ready word tells.
use Rattle.std.specs.Prelude.{◌≡◌, ℕ, zero, suc, ◌+◌, ◌*◌, ◌/◌, ◌%◌, ◌^◌, ◌<◌, ◌≤◌, Bool, false, ◌&&◌, ◌||◌, Ok, Err, Result, ◌==◌, ◌≢◌}
use Rattle.std.specs.Int.Count.{count_trailing_zeros}
use Rattle.schedule.specs.Lists.{one_if, total, below}
use Rattle.schedule.specs.Layout.{System}
use Rattle.schedule.specs.TickRule.{State, job, ready_on, rank, runs_on}
use Rattle.machine.specs.declared.fault.MachineFault.{MachineFault}
use Rattle.machine.specs.Faults.{shown, by_machine}

-- The word of k bits whose bit r is set where the test holds of r.
unfoldable pub word_of : (ℕ → Bool) → ℕ → ℕ
word_of test zero = 0
word_of test (suc k) = word_of (λ r. test (suc r)) k * 2 + one_if (test 0)

-- Bit r of a word.
abbrev pub bit : ℕ → ℕ → ℕ
bit word r = (word / 2 ^ r) % 2

-- The test holds of a number below n.
abbrev pub some_below : ℕ → (ℕ → Bool) → Bool
some_below zero test = false
some_below (suc n) test = some_below n test || test n

-- A task of rank r is ready on processor p.
abbrev pub ready_rank : System → State → ℕ → ℕ → Bool
ready_rank sys s p r = some_below sys.tasks (λ i. (rank sys i == r) && ready_on p (job s i))

-- How many tasks are ready on processor p.
abbrev pub ready_tasks_on : System → State → ℕ → ℕ
ready_tasks_on sys s p = total (λ i. one_if (ready_on p (job s i))) (below sys.tasks)

-- What the ready word of processor p tells: bit r is set exactly where the task of rank r is ready on p, and its lowest set bit is the rank
-- of the task that runs there.
pub record ReadyWord (sys : System) (s : State) (p word : ℕ) : Type 0 where
  pub value : word ≡ word_of (ready_rank sys s p) 32
  pub ranks : (r : ℕ) → r < 32 → bit word r ≡ one_if (ready_rank sys s p r)
  pub tasks : (i : ℕ) → i < sys.tasks → bit word (rank sys i) ≡ one_if (ready_on p (job s i))
  pub idle : word ≡ 0 → runs_on sys s p ≡ 255
  pub first : (word ≢ 0) → rank sys (runs_on sys s p) ≡ count_trailing_zeros 32 word

-- A question about processor p of m answers where there is one, and else refuses its number.
abbrev pub Asked : {X : Type 0} → ℕ → ℕ → Result X MachineFault → Type 0
Asked m p (Ok x) = p < m
Asked m p (Err e) = (m ≤ p) × (shown e ≡ by_machine 13 p)
