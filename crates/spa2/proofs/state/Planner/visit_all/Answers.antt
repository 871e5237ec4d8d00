use Rattle.std.proofs.Common.{◌≡◌, ◌+◌, ◌-◌, ◌<◌, length, sym, ap, ◌∙◌, subst, arith}
use Rattle.tasks.specs.Sets.{count_of}
use Rattle.spa2.specs.Placing.{State, Visiting, tasks_of, visited_from}
use Rattle.spa2.specs.Seen.{seen}
use Rattle.spa2.proofs.Steps.{visits_more, visits_none}
use Rattle.spa2.proofs.Visits.{visited_visiting, visits_length}
use Rattle.spa2.proofs.Weights.{opens_few}
use Rattle.spa2.proofs.state.Planner.visit_all.Goals as goal

pub loop-task-preserved : goal.loop-task-preserved
loop-task-preserved c =
    let t = tasks_of c.args.set.now in
    let s = seen c.loop-task.self in
    let i = c.loop-task.task in
    let here : i < count_of c.args.set.now = omega arith in (
      ap (λ (z : State). visited_from t z (i + 1) (count_of c.args.set.now - (i + 1))) c.visit.ensures ∙ (sym (visits_more t s i here) ∙ c.loop-task.invariant.0),
      subst (λ (z : State). Visiting z (i + 1)) (sym c.visit.ensures) (visited_visiting t s i c.loop-task.invariant.1),
    )

pub returns-clause-enough : goal.returns-clause-enough
returns-clause-enough c =
    let t = tasks_of c.args.set.now in
    let s = seen c.loop-task.self in
    let v = c.loop-task.invariant.1 in
    let after : s ≡ visited_from t (seen c.args.self.now) 0 (count_of c.args.set.now) = sym (visits_none t s c.loop-task.task (omega arith)) ∙ c.loop-task.invariant.0 in
    let many = ap (λ (z : State). length z.processors) after ∙ visits_length t (seen c.args.self.now) 0 (count_of c.args.set.now) in
    omega (arith, v.each, opens_few s.processors, many, c.loop-task.auto.task-end)

pub returns-clause-light : goal.returns-clause-light
returns-clause-light c =
    let v = c.loop-task.invariant.1 in
    omega (arith, v.listed, v.seated, v.each, opens_few c.loop-task.self.processors.now, c.loop-task.self.few, c.args.set.now.few)
