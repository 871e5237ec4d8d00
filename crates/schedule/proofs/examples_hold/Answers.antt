use Rattle.schedule.proofs.examples_hold.Goals as goal
use Rattle.schedule.proofs.examples.Worked.{worked}

pub returns : goal.returns
returns c = worked
