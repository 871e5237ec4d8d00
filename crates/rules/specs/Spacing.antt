-- Spaced arrivals: a task's releases are at least its period apart.
use Rattle.std.specs.Prelude.{ℕ, ◌-◌}
use Rattle.tasks.specs.Numbers.{rounded_up}
use Rattle.rules.specs.Regulators.{of_task}
use Rattle.rules.specs.declared.per_task.PerTask.{PerTask}
use Rattle.rules.specs.declared.spaced.Gap.{Gap}

abbrev pub Spaced : Type 0
Spaced = PerTask Gap

-- A release every period, beginning with the first tick.
abbrev pub gap_curve : Gap → ℕ → ℕ
gap_curve g L = rounded_up L g.period

-- The same, once the wait is over.
abbrev pub gap_left : Gap → ℕ → ℕ
gap_left g L = rounded_up (L - g.wait) g.period

abbrev pub spaced_curve : Spaced → ℕ → ℕ → ℕ
spaced_curve r = of_task gap_curve r.regulators

abbrev pub spaced_left : Spaced → ℕ → ℕ → ℕ
spaced_left r = of_task gap_left r.regulators
