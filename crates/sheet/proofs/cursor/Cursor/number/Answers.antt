use Rattle.std.proofs.Common.{arith}
use Rattle.std.proofs.lemmas.Grind.{common_steps}
use Rattle.sheet.proofs.Steps.{at_byte}
use Rattle.sheet.proofs.cursor.Cursor.number.Goals as goal

pub returns-then-not-hold-clause-value : goal.returns-then-not-hold-clause-value
returns-then-not-hold-clause-value c = grind (arith, common_steps, at_byte)

pub returns-in-Stop-clause-value : goal.returns-in-Stop-clause-value
returns-in-Stop-clause-value c = grind (arith, common_steps, at_byte)

pub returns-in_default-clause-value : goal.returns-in_default-clause-value
returns-in_default-clause-value c = grind (arith, common_steps, at_byte)

pub loop-digits-preserved : goal.loop-digits-preserved
loop-digits-preserved c = grind (arith, common_steps, at_byte)
