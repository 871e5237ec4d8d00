use Rattle.std.proofs.Common.{◌≡◌, length, min, arith, rules}
use Rattle.std.proofs.lemmas.Slice.Zip.{zip_end}
use Rattle.parts.specs.Parts.{parts_of}
use Rattle.sheets.proofs.Items.{assembled_each}
use Rattle.sheets.proofs.drafts.sheets.assemble.Goals as goal

pub returns : goal.returns
returns c =
    let ended : length c.loop-place.yielded ≡ min (length c.args.places.now) (length c.args.amounts.now) =
    zip_end c.args.places.now c.args.amounts.now c.loop-place.yielded c.into_iter-place-iterator.result c.loop-place.place-iterator c.next.new.self c.next.result (search rules) (search rules) c.loop-place.yielded_by c.in-None.is c.next.ensures.steps in
    let all : length (parts_of c.loop-place.list) ≡ length c.args.places.now = omega arith in
    assembled_each (parts_of c.loop-place.list) c.args.places.now c.args.amounts.now all c.requires.0 (λ k l. c.loop-place.invariant.1 k (omega arith))
