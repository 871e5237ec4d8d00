use Rattle.std.proofs.Common.{List, Ok, Err, Result, sym, ap, ◌∙◌}
use Rattle.std.proofs.lemmas.Result.{err_from_is_err_and}
use Rattle.schedule.specs.declared.Part.{Part}
use Rattle.parts.specs.declared.fault.PlanFault.{PlanFault}
use Rattle.spa2.specs.Placing.{tasks_of}
use Rattle.spa2.specs.Seen.{seen}
use Rattle.spa2.proofs.Starts.{begun, placed_answer}
use Rattle.spa2.proofs.planning.placed_parts.Goals as goal

pub returns-in_err-fill : goal.returns-in_err-fill
returns-in_err-fill c =
    let p = err_from_is_err_and c.from_residual.result c.from_residual.ensures.1 in
    rw (p.1, p.2)
    (sym (placed_answer (tasks_of c.args.set.now) c.args.count (seen c.new-planner.result) (seen c.visit_all.new.self) (Err c.in_err-fill.field-0.0)
    (begun c.args.count _ c.requires c.new-planner.ensures) c.visit_all.ensures.after c.visit_all.ensures.enough c.in_err-fill.ensures))

pub returns : goal.returns
returns c =
    let done : List Part → Result (List Part) PlanFault = λ ps. Ok ps in
    ap done c.parts.ensures
    ∙ sym (placed_answer (tasks_of c.args.set.now) c.args.count (seen c.new-planner.result) (seen c.visit_all.new.self) (Ok (seen c.fill.new.self).parts)
    (begun c.args.count _ c.requires c.new-planner.ensures) c.visit_all.ensures.after c.visit_all.ensures.enough c.in_ok-fill.ensures)
