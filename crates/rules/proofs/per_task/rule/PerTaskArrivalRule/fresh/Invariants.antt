use Rattle.std.proofs.Common.{◌≡◌, length}
use Rattle.rules.proofs.Regulators.{SoFar, Filling}
use Rattle.rules.proofs.per_task.rule.PerTaskArrivalRule.fresh.Given as goal

abbrev pub invariant-loop-regulator : goal.invariant-loop-regulator
invariant-loop-regulator g l =
    (length l.regulator-items ≡ 32)
    × SoFar g.G.Regulator.curve g.G.Regulator.left Filling l.regulator-index l.initial.regulator-items l.regulator-items
