-- What a layout holds, and what it tells of the jobs.
use Rattle.std.specs.Prelude.{◌≡◌, ℕ, ◌<◌, Bool, ◌&&◌, ◌==◌, slice_index, slice_index_or}
use Rattle.schedule.specs.TickRule.{ready_on}
use Rattle.tasks.specs.Ranks.{rank_in}
use Rattle.tasks.specs.Sets.{count_of}
use Rattle.tasks.specs.declared.order.TaskKey.{TaskKey}
use Rattle.parts.specs.Parts.{parts_of}
use Rattle.machine.specs.declared.jobs.Job.TheVariants.{Closed}
use Rattle.machine.specs.declared.jobs.JobTable.{JobTable}
use Rattle.machine.specs.declared.layout.Layout.{Layout}
use Rattle.machine.specs.Jobs.{meant}
use Rattle.machine.specs.Words.{word_of, some_below}

-- The ranks of a layout are those of an order.
abbrev pub ByOrder : Layout → (TaskKey → TaskKey → Bool) → Type 0
ByOrder l before = (i : ℕ) → i < count_of l.set → slice_index l.ranks i ≡ rank_in before l.set i

-- The job of task i has rank r in the layout, and is ready on processor p.
abbrev pub ready_as : Layout → JobTable → ℕ → ℕ → ℕ → Bool
ready_as l table p r i = slice_index l.ranks i == r && ready_on p (meant (parts_of l.list) (slice_index_or table.jobs i Closed))

-- The ready word of a processor by the ranks of the layout, of the first n tasks and of all.
abbrev pub word_up_to : Layout → JobTable → ℕ → ℕ → ℕ
word_up_to l table p n = word_of (λ r. some_below n (ready_as l table p r)) 32

abbrev pub table_word : Layout → JobTable → ℕ → ℕ
table_word l table p = word_up_to l table p (count_of l.set)
