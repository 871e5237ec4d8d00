use Rattle.std.proofs.Common.{get_or}
use Rattle.machine.specs.declared.jobs.Job.TheVariants.{Closed}
use Rattle.machine.proofs.Ageing.{on_processor}
use Rattle.machine.proofs.dispatcher.Dispatcher.has_run.Goals as goal

pub bounds-running-from : goal.bounds-running-from
bounds-running-from c = rw c.from.ensures ((on_processor c.args.self.now.layout (get_or c.args.self.now.table.jobs c.args.task Closed) c.in-Ready.age c.in-Ready.left c.in-Ready.part c.in-Ready.is (c.args.self.now.fitting c.args.task)).1)
