use Rattle.std.proofs.Common.{◌≡◌, ℕ, true, List, sym, subst}
use Rattle.schedule.specs.declared.Part.{Part}
use Rattle.plan.specs.Checks.{numbers_pass}
use Rattle.tasks.specs.declared.set.TaskSet.{TaskSet}
use Rattle.parts.specs.Parts.{PartList, parts_of}
use Rattle.machine.specs.Placing.{Runnable}
use Rattle.machine.proofs.Ageing.{passed_from, passed_runnable}
use Rattle.machine.proofs.layout.Layout.new.Goals as goal

-- The parts of the list can be laid out.
runnable : (set : TaskSet) (m : ℕ) (list : PartList) (ps : List Part) → numbers_pass set m (parts_of list) ≡ true → ps ≡ parts_of list → Runnable ps
runnable set m list ps pass e = subst Runnable (sym e) (passed_runnable set m (parts_of list) (passed_from set m (parts_of list) pass))

pub placed_of-placed-requires : goal.placed_of-placed-requires
placed_of-placed-requires g c = runnable c.args.set c.args.processors c.args.list c.as_slice-parts.result.now c.requires c.as_slice-parts.ensures

pub link_parts-first-requires-clause-runnable : goal.link_parts-first-requires-clause-runnable
link_parts-first-requires-clause-runnable g c = runnable c.args.set c.args.processors c.args.list c.as_slice-parts.result.now c.requires c.as_slice-parts.ensures
