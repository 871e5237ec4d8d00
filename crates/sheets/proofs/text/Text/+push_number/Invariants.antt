use Rattle.sheets.proofs.text.Text.+push_number.Given as goal

abbrev pub decreases_push_number : goal.decreases_push_number
decreases_push_number l = l.value
