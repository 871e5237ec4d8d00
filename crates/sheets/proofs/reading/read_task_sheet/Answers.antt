use Rattle.sheets.proofs.TaskSheets.{task_sheets_are_texts}
use Rattle.sheets.proofs.reading.read_task_sheet.Goals as goal

pub returns-in_err-draft-clause-texts : goal.returns-in_err-draft-clause-texts
returns-in_err-draft-clause-texts c = task_sheets_are_texts

pub returns-clause-texts : goal.returns-clause-texts
returns-clause-texts c = task_sheets_are_texts
