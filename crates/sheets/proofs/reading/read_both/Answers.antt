use Rattle.std.proofs.Common.{rules}
use Rattle.sheets.specs.Grammar.{sheet_pair}
use Rattle.sheets.proofs.Refusals.{refusal_of_both}
use Rattle.sheets.proofs.TaskSheets.{both_count, both_are_texts}
use Rattle.sheets.proofs.reading.read_both.Goals as goal

pub propose-requires : goal.propose-requires
propose-requires c = both_count c.args.bytes.now (c.in_ok-sheet.sheet, c.in_ok-sheet.list) c.in_ok-sheet.ensures

pub returns-in_err-sheet-clause-value : goal.returns-in_err-sheet-clause-value
returns-in_err-sheet-clause-value c = search rules

pub returns-in_err-sheet-clause-refusal : goal.returns-in_err-sheet-clause-refusal
returns-in_err-sheet-clause-refusal c = refusal_of_both (sheet_pair c.args.bytes.now) c.from_residual.result (search rules)

pub returns-in_err-sheet-clause-texts : goal.returns-in_err-sheet-clause-texts
returns-in_err-sheet-clause-texts c = both_are_texts

pub returns-clause-texts : goal.returns-clause-texts
returns-clause-texts c = both_are_texts
