use Rattle.sheets.proofs.Texts.{places_fit_in, amounts_fit_in}
use Rattle.sheets.proofs.text.Text.of_plan.Goals as goal

pub push_line-requires-clause-room : goal.push_line-requires-clause-room
push_line-requires-clause-room c = places_fit_in c.args.parts.now _ _ c.requires.each c.requires.few c.empty-text.ensures c.push_count.ensures

pub push_line-requires-2-clause-room : goal.push_line-requires-2-clause-room
push_line-requires-2-clause-room c =
    amounts_fit_in c.args.parts.now _ _ _ c.requires.each c.requires.few c.empty-text.ensures c.push_count.ensures c.push_line.ensures
