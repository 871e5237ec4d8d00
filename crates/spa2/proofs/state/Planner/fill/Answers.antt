use Rattle.spa2.proofs.state.Planner.fill.Goals as goal
use Rattle.std.proofs.Common.{◌+◌, ◌<◌, ◌≤◌, List, length, Err, Result, sym, ap, ◌∙◌, arith}
use Rattle.std.proofs.lemmas.Result.{err_from_is_err_and}
use Rattle.schedule.specs.declared.Part.{Part}
use Rattle.parts.specs.declared.fault.PlanFault.{PlanFault}
use Rattle.front.specs.Fronts.{listed}
use Rattle.spa2.specs.Placing.{tasks_of, turns, weight}
use Rattle.spa2.specs.Seen.{seen}
use Rattle.spa2.proofs.Filling.{turn_falls, turn_same}
use Rattle.spa2.proofs.Turns.{turns_done, turns_stuck}

-- A turn makes the planner's state lighter.
falls : (c : goal.In_ok-turn) →
    (weight (seen c.turn.new.self) < weight (seen c.loop-piece.self))
    × (length (seen c.turn.new.self).parts + weight (seen c.turn.new.self) ≤ length (seen c.loop-piece.self).parts + weight (seen c.loop-piece.self))
falls c =
    turn_falls (tasks_of c.args.set.now) (seen c.loop-piece.self) (seen c.turn.new.self) c.in-Some.piece (listed c.take_front.new.self)
    c.loop-piece.self.known c.in-Some.ensures.after c.in_ok-turn.ensures

pub loop-piece-smaller : goal.loop-piece-smaller
loop-piece-smaller c = (falls c).0

pub loop-piece-preserved : goal.loop-piece-preserved
loop-piece-preserved c =
    let t = tasks_of c.args.set.now in
    let s = seen c.loop-piece.self in
    let first = seen c.args.self.now in (
      (λ k h.
          let on = c.loop-piece.invariant.0 k h in
          turn_same t s (seen c.turn.new.self) c.in-Some.piece (listed c.take_front.new.self) (turns t k first)
          c.in-Some.ensures.after c.in_ok-turn.ensures (falls c).0 on.0 on.1 on.2),
      omega (arith, (falls c).1, c.loop-piece.invariant.1),
    )

pub returns : goal.returns
returns c k h =
    let on = c.loop-piece.invariant.0 k h in
    on.2 ∙ turns_done (tasks_of c.args.set.now) on.0 (seen c.loop-piece.self) c.in_default.ensures.after.0

pub returns-in_err-turn : goal.returns-in_err-turn
returns-in_err-turn c k h =
    let on = c.loop-piece.invariant.0 k h in
    let p = err_from_is_err_and c.from_residual.result c.from_residual.ensures.1 in
    let told = c.in_err-turn.ensures in
    let refused : PlanFault → Result (List Part) PlanFault = λ e. Err e in
    rw (p.1, p.2)
    (on.2 ∙ (turns_stuck (tasks_of c.args.set.now) on.0 (seen c.loop-piece.self) c.in-Some.piece (listed c.take_front.new.self) c.in-Some.ensures.after told.0
    ∙ ap refused (sym told.1)))
