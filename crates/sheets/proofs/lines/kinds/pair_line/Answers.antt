use Rattle.std.proofs.Common.{refl}
use Rattle.sheets.proofs.Items.{pairs_line}
use Rattle.sheets.proofs.lines.kinds.pair_line.Goals as goal

pub returns-in-P : goal.returns-in-P
returns-in-P c =
    pairs_line c.args.count c.args.letter 80 _ _ _ _ _ _ (λ _ _. refl) c.requires c.in-P.is c.in_ok-expect.ensures.value c.read_items.ensures

pub returns-in-A : goal.returns-in-A
returns-in-A c =
    pairs_line c.args.count c.args.letter 65 _ _ _ _ _ _ (λ _ _. refl) c.requires c.in-A.is c.in_ok-expect.ensures.value c.read_items-in-A.ensures
