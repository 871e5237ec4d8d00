use Rattle.sheets.proofs.Items.{ticks_line}
use Rattle.sheets.proofs.lines.kinds.number_line.Goals as goal

pub returns-in-P : goal.returns-in-P
returns-in-P c = ticks_line c.args.count c.args.letter _ _ _ _ _ c.requires c.in-P.is c.in_ok-expect.ensures.value c.read_items-in-P.ensures
