-- A token bucket for each task.
use Rattle.std.specs.Prelude.{◌≡◌, ℕ, ◌<◌, ◌≤◌, Bool, not, ◌&&◌, ◌||◌, List, length, Some, None, Ok, Err, Option, Result, nat_le, slice_index, slice_index_or}
use Rattle.std.specs.Option.{option_or, option_map}
use Rattle.std.specs.Bool.{then_some}
use Rattle.tasks.specs.Searches.{first_where}
use Rattle.tasks.specs.Sets.{miscounted, on_scale}
use Rattle.rules.specs.Tokens.{full_curve, tokens_curve, tokens_left}
use Rattle.rules.specs.Regulators.{of_task}
use Rattle.rules.specs.declared.per_task.PerTask.{PerTask}
use Rattle.tasks.specs.declared.fault.SetFault.{SetFault}
use Rattle.tasks.specs.declared.fault.SetFault.TheVariants.{OffScale}
use Rattle.rules.specs.declared.tokens.Tokens.{Tokens}

abbrev pub Bucket : Type 0
Bucket = PerTask Tokens

abbrev pub bucket_curve : Bucket → ℕ → ℕ → ℕ
bucket_curve r = of_task tokens_curve r.regulators

abbrev pub bucket_left : Bucket → ℕ → ℕ → ℕ
bucket_left r = of_task tokens_left r.regulators

-- The size or the refill time of a task is outside its limits.
abbrev pub off_limits : List ℕ → List ℕ → ℕ → Bool
off_limits sizes refills i = not (nat_le 1 (slice_index sizes i) && nat_le (slice_index sizes i) 1000) || not (on_scale (slice_index refills i))

-- What is wrong with sizes and refill times: their count, or the first task with one outside its limits.
abbrev pub bucket_fault : List ℕ → List ℕ → Option SetFault
bucket_fault sizes refills =
    option_or (then_some (miscounted sizes refills) (OffScale 0)) (option_map OffScale (first_where (off_limits sizes refills) (length sizes)))

-- A full bucket of this size and refill time.
abbrev pub FullOf : ℕ → ℕ → Tokens → Type 0
FullOf size refill t =
    (L : ℕ) → (tokens_curve t L ≡ full_curve size refill L) × (1 ≤ L → tokens_left t L ≡ full_curve size refill L)

-- Each task has the curve of its size and refill time, those past the given ones that of 1 and 1; all are full.
abbrev pub Filled : List ℕ → List ℕ → Bucket → Type 0
Filled sizes refills r =
    (i L : ℕ) → i < 32 → (bucket_curve r i L ≡ full_curve (slice_index_or sizes i 1) (slice_index_or refills i 1) L) × (1 ≤ L → bucket_left r i L ≡ bucket_curve r i L)

-- What the making of buckets answers: full ones where nothing is wrong with their numbers, else the fault.
abbrev pub Bucketed : List ℕ → List ℕ → Result Bucket SetFault → Type 0
Bucketed sizes refills (Ok r) = (bucket_fault sizes refills ≡ None) × Filled sizes refills r
Bucketed sizes refills (Err f) = bucket_fault sizes refills ≡ Some f
