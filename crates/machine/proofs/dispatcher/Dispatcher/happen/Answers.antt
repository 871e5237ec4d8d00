use Rattle.std.proofs.Common.{◌∙◌}
use Rattle.std.proofs.lemmas.List.{length-set}
use Rattle.parts.specs.Parts.{parts_of}
use Rattle.machine.proofs.States.{fits_set}
use Rattle.machine.proofs.dispatcher.Dispatcher.happen.Goals as goal

pub invariant_of-self : goal.invariant_of-self
invariant_of-self c =
    let d = c.args.self.now in
    record {
      whole = length-set d.table.jobs c.args.task _ ∙ d.whole;
      fitting = fits_set (parts_of d.layout.list) d.table.jobs c.args.task _ d.fitting c.next_state.ensures.fitting;
    }
