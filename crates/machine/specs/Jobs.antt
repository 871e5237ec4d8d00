-- What a record of the job table means under the tick rule, and which records a machine can hold.
use Rattle.std.specs.Prelude.{◌≡◌, ℕ, Bool, true, false, not, ◌&&◌, List, length, Some, None, Option, ◌==◌, nat_le, nat_lt, slice_index}
use Rattle.schedule.specs.declared.Part.{Part}
use Rattle.schedule.specs.Layout.{segments}
use Rattle.schedule.specs.TickRule as Rule
use Rattle.plan.specs.Checks.{part_at}
use Rattle.machine.specs.declared.jobs.Job.{Job}
use Rattle.machine.specs.declared.jobs.Job.TheVariants.{Closed, Waiting, Ready}
use Rattle.machine.specs.declared.jobs.Event.{Event}
use Rattle.machine.specs.declared.jobs.Event.TheVariants.{Release, Finish, Tick}
use Rattle.machine.specs.Placing.{begin_at, end_at, segment_at, later_at}

-- The job of the tick rule that a record stands for. While its part has not begun, all of the part's cost is left.
abbrev pub meant : List Part → Job → Rule.Job
meant ps Closed = Rule.closed
meant ps (Waiting age part) = Rule.open_at age (part_at ps part).cost (segment_at ps part) (later_at ps part)
meant ps (Ready age left part) = Rule.open_at age left (segment_at ps part) (later_at ps part)

-- The records that a machine holds: the part is one of the plan's, a waiting job's part has not begun, and that of a ready job
-- has begun, has not ended and has cost left.
abbrev pub fits : List Part → Job → Bool
fits ps Closed = true
fits ps (Waiting age part) = nat_lt part (length ps) && nat_lt age (begin_at ps part)
fits ps (Ready age left part) = nat_lt part (length ps) && (nat_le (begin_at ps part) age && (nat_lt age (end_at ps part) && nat_lt 0 left))

-- A job of this age can go on with the part: it is one of the plan's, and has not ended.
abbrev pub in_time : List Part → ℕ → Option ℕ → Bool
in_time ps age None = true
in_time ps age (Some part) = nat_lt part (length ps) && nat_lt age (end_at ps part)

-- A job does not run while it waits.
abbrev pub may : Job → Event → Bool
may Closed event = true
may (Waiting age part) Release = true
may (Waiting age part) Finish = true
may (Waiting age part) (Tick ran) = not ran
may (Ready age left part) event = true

-- What an event makes of the job of task i, by the tick rule.
abbrev pub after_event : List Part → ℕ → Event → Rule.Job → Rule.Job
after_event ps i Release job = Rule.hand_over 0 (segments ps i)
after_event ps i Finish job = Rule.closed
after_event ps i (Tick ran) job = Rule.aged ran job

-- Of what runs on each processor: the job of task i ran, being ready there.
abbrev pub ran_by : List Part → List ℕ → ℕ → Job → Bool
ran_by ps running i Closed = false
ran_by ps running i (Waiting age part) = false
ran_by ps running i (Ready age left part) = slice_index running (part_at ps part).processor == i

-- A record after a tick.
abbrev pub Aged : List Part → List ℕ → ℕ → Job → Job → Type 0
Aged ps running i old new = meant ps new ≡ Rule.aged (ran_by ps running i old) (meant ps old)
