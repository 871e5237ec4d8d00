use Rattle.std.proofs.Common.{[], ◌∷◌, decimal, arith}
use Rattle.sheets.specs.Texts.{text_of}
use Rattle.sheets.proofs.Texts.{grown, count_printed, by_count}
use Rattle.sheets.proofs.text.Text.push_count.Goals as goal

pub push_number-requires : goal.push_number-requires
push_number-requires c =
    omega (arith, count_printed c.args.count c.requires.few, grown _ _ (75 ∷ []) c.push.ensures, grown _ _ (32 ∷ []) c.push-2.ensures)

pub push-requires-3 : goal.push-requires-3
push-requires-3 c =
    omega (
      arith,
      count_printed c.args.count c.requires.few,
      grown _ _ (75 ∷ []) c.push.ensures,
      grown _ _ (32 ∷ []) c.push-2.ensures,
      grown _ _ (decimal c.args.count) c.push_number.ensures,
    )

pub returns : goal.returns
returns c =
    by_count (text_of c.args.self.now) _ _ _ _ c.args.count c.requires.few
    c.push.ensures c.push-2.ensures c.push_number.ensures c.push-3.ensures
