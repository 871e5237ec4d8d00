use Rattle.schedule.proofs.verdict_exact.Goals as goal
use Rattle.schedule.proofs.Theorems.{exact}

pub returns : goal.returns
returns c = exact
