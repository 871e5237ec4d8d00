use Rattle.schedule.proofs.promise_kept.Goals as goal
use Rattle.schedule.proofs.Theorems.{sound}

pub returns : goal.returns
returns c = sound
