use Rattle.std.proofs.Common.{rules}
use Rattle.sheets.proofs.Bounds.{task_count}
use Rattle.sheets.proofs.drafts.sheets.task_lines.Goals as goal

pub number_line-requires-2 : goal.number_line-requires-2
number_line-requires-2 c = search (rules, task_count)

pub number_line-requires-3 : goal.number_line-requires-3
number_line-requires-3 c = search (rules, task_count)
