use Rattle.std.proofs.Common.{[], ◌∷◌, decimal, arith}
use Rattle.sheets.specs.Texts.{text_of}
use Rattle.sheets.proofs.Texts.{grown, pair_printed, by_pair}
use Rattle.sheets.proofs.text.Text.push_pair.Goals as goal

pub push_number-requires : goal.push_number-requires
push_number-requires c =
    omega (arith, pair_printed c.args.pair.left c.args.pair.right c.requires.six.0 c.requires.six.1, grown _ _ (32 ∷ []) c.push.ensures)

pub push-requires-2 : goal.push-requires-2
push-requires-2 c =
    omega (
      arith,
      pair_printed c.args.pair.left c.args.pair.right c.requires.six.0 c.requires.six.1,
      grown _ _ (32 ∷ []) c.push.ensures,
      grown _ _ (decimal c.args.pair.left) c.push_number.ensures,
    )

pub push_number-requires-2 : goal.push_number-requires-2
push_number-requires-2 c =
    omega (
      arith,
      pair_printed c.args.pair.left c.args.pair.right c.requires.six.0 c.requires.six.1,
      grown _ _ (32 ∷ []) c.push.ensures,
      grown _ _ (decimal c.args.pair.left) c.push_number.ensures,
      grown _ _ (47 ∷ []) c.push-2.ensures,
    )

pub returns : goal.returns
returns c =
    by_pair (text_of c.args.self.now) _ _ _ _ c.args.pair.left c.args.pair.right c.requires.six.0 c.requires.six.1
    c.push.ensures c.push_number.ensures c.push-2.ensures c.push_number-2.ensures
