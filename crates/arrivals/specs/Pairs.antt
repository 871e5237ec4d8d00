-- Releases in pairs: two places, each taken by a release for seven ticks, the second one tick after the first.
use Rattle.std.specs.Prelude.{ℕ, ◌+◌, ◌-◌}
use Rattle.tasks.specs.Numbers.{rounded_up}
use Rattle.rules.specs.Regulators.{of_task}
use Rattle.rules.specs.declared.per_task.PerTask.{PerTask}
use Rattle.arrivals.specs.declared.paired.Pair.{Pair}

-- What two places admit in L ticks, where they are free after so many ticks.
abbrev pub places : ℕ → ℕ → ℕ → ℕ
places sooner later L = rounded_up (L - sooner) 7 + rounded_up (L - later) 7

abbrev pub pair_curve : Pair → ℕ → ℕ
pair_curve p L = places 0 1 L

abbrev pub pair_left : Pair → ℕ → ℕ
pair_left p L = places p.sooner p.later L

abbrev pub Paired : Type 0
Paired = PerTask Pair

abbrev pub paired_curve : Paired → ℕ → ℕ → ℕ
paired_curve r = of_task pair_curve r.regulators

abbrev pub paired_left : Paired → ℕ → ℕ → ℕ
paired_left r = of_task pair_left r.regulators
