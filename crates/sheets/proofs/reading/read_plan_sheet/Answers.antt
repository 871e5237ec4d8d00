use Rattle.std.proofs.Common.{◌≡◌, List, Ok, Result, rules}
use Rattle.schedule.specs.declared.Part.{Part}
use Rattle.sheet.specs.declared.fault.SheetFault.{SheetFault}
use Rattle.parts.specs.Parts.{parts_of, plan_of}
use Rattle.sheets.specs.Grammar.{plan_sheet}
use Rattle.sheets.proofs.PlanSheets.{read_count, written_back, sheets_are_texts}
use Rattle.sheets.proofs.reading.read_plan_sheet.Goals as goal

pub propose-requires : goal.propose-requires
propose-requires c =
    let read : ◌≡◌ {A = Result (List Part) SheetFault} (Ok (parts_of c.in_ok-list.list)) (plan_sheet c.args.bytes.now) = search rules in
    read_count c.args.bytes.now (parts_of c.in_ok-list.list) read

pub returns-clause-written_back : goal.returns-clause-written_back
returns-clause-written_back c =
    let read : ◌≡◌ {A = Result (List Part) SheetFault} (Ok (plan_of c.propose.result)) (plan_sheet c.args.bytes.now) = search rules in
    written_back c.args.bytes.now (plan_of c.propose.result) read

pub returns-in_err-list-clause-texts : goal.returns-in_err-list-clause-texts
returns-in_err-list-clause-texts c = sheets_are_texts

pub returns-clause-texts : goal.returns-clause-texts
returns-clause-texts c = sheets_are_texts
