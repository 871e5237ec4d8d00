use Rattle.std.proofs.Common.{not, ◌∙◌, rules}
use Rattle.std.proofs.lemmas.Iterator.{YieldsList-from_slice}
use Rattle.std.proofs.lemmas.Iterator.Search.{position_from_yields_List}
use borrow.Author.Tests.{tests}
use Rattle.sheets.specs.Texts.{writable}
use Rattle.sheets.proofs.Texts.{first_unwritable_at}
use Rattle.sheets.proofs.writing.first_unwritable.Goals as goal

pub returns : goal.returns
returns c =
    position_from_yields_List (λ p. not (writable p)) _ _ c.position.result c.position.ensures.ran (YieldsList-from_slice c.args.parts.now cc) (λ x b q k. search (rules, tests))
    ∙ first_unwritable_at c.args.parts.now
