-- Where each part of a plan stands in the life of its job, and which part of its task follows it.
use Rattle.std.specs.Prelude.{ℕ, suc, ◌+◌, ◌<◌, ◌≤◌, cond, List, [], ◌∷◌, length, take, drop, Some, None, Option, ◌==◌}
use Rattle.schedule.specs.declared.Part.{Part}
use Rattle.schedule.specs.Layout.{Segment, segments_from, span_of}
use Rattle.plan.specs.Checks.{part_at}
use Rattle.machine.specs.declared.placed.PlacedPart.{PlacedPart}

-- The first part of task i among these, which are numbered from k.
abbrev pub next_from : ℕ → ℕ → List Part → Option ℕ
next_from i k [] = None
next_from i k (p ∷ ps) =
    let rest = next_from i (suc k) ps in
    cond (p.task == i) (Some k) rest

-- The first part of task i from number k on.
abbrev pub next_part : List Part → ℕ → ℕ → Option ℕ
next_part ps i k = next_from i k (drop k ps)

-- Part k begins where the windows of its task's earlier parts end.
abbrev pub begin_at : List Part → ℕ → ℕ
begin_at ps k = span_of (take k ps) (part_at ps k).task

-- It ends its window later.
abbrev pub end_at : List Part → ℕ → ℕ
end_at ps k = begin_at ps k + (part_at ps k).window

-- The segment of part k, and those of the later parts of its task.
abbrev pub segment_at : List Part → ℕ → Segment
segment_at ps k = record { proc = (part_at ps k).processor; cost = (part_at ps k).cost; begin = begin_at ps k; end = end_at ps k }

abbrev pub later_at : List Part → ℕ → List Segment
later_at ps k = segments_from (part_at ps k).task (end_at ps k) (drop (suc k) ps)

-- The segments from a part on; none where there is no part.
abbrev pub from_part : List Part → Option ℕ → List Segment
from_part ps None = []
from_part ps (Some k) = segment_at ps k ∷ later_at ps k

-- Part k as a machine holds it.
abbrev pub placed_at : List Part → ℕ → PlacedPart
placed_at ps k = record {
  processor = (part_at ps k).processor;
  cost = (part_at ps k).cost;
  begin = begin_at ps k;
  end = end_at ps k;
  next = next_part ps (part_at ps k).task (suc k);
}

-- Part k before the parts are linked.
abbrev pub unlinked_at : List Part → ℕ → PlacedPart
unlinked_at ps k = record (placed_at ps k) { next = None }

-- A place that holds no part.
abbrev pub unplaced : PlacedPart
unplaced = record { processor = 0; cost = 0; begin = 0; end = 0; next = None }

-- Parts that tables can be made of: no more than 64, of tasks below 32, with windows on the scale.
abbrev pub Runnable : List Part → Type 0
Runnable ps = (length ps ≤ 64) × ((k : ℕ) → k < length ps → ((part_at ps k).task < 32) × ((part_at ps k).window ≤ 100000))
