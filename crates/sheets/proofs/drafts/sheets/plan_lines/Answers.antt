use Rattle.std.proofs.Common.{rules}
use Rattle.sheets.proofs.Bounds.{part_count}
use Rattle.sheets.proofs.Whole.{assembles}
use Rattle.sheets.proofs.drafts.sheets.plan_lines.Goals as goal

pub pair_line-requires : goal.pair_line-requires
pair_line-requires c = search (rules, part_count)

pub pair_line-requires-2 : goal.pair_line-requires-2
pair_line-requires-2 c = search (rules, part_count)

pub assemble-requires : goal.assemble-requires
assemble-requires c = search (rules, part_count, assembles)
