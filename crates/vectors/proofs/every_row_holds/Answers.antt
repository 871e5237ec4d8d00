use Rattle.vectors.proofs.every_row_holds.Goals as goal
use Rattle.vectors.proofs.Holding.{every_row}

pub returns : goal.returns
returns c = every_row
