use Rattle.std.proofs.Common.{[], ◌∷◌, ◌++◌, ap, ◌∙◌, arith}
use Rattle.sheets.specs.Texts.{text_of, pair_shown, pair_of}
use Rattle.sheets.proofs.Texts.{item_fits, end_fits, line_more, line_all}
use Rattle.sheets.proofs.text.Text.push_line.Goals as goal

pub push_pair-requires-clause-room : goal.push_pair-requires-clause-room
push_pair-requires-clause-room c =
    rw c.pair.ensures (item_fits c.args.line c.args.parts.now c.loop-part.part-index (text_of c.args.self.now) _ _ c.requires.room
    (c.push.ensures ∙ ap (λ x. text_of c.args.self.now ++ (x ∷ [])) c.letter.ensures) c.loop-part.invariant c.loop-part-test.true)

pub loop-part-preserved : goal.loop-part-preserved
loop-part-preserved c =
    line_more (λ p. pair_shown (pair_of c.args.line p)) c.args.parts.now c.loop-part.part-index _ _ _ c.loop-part-test.true c.loop-part.invariant
    (c.push_pair.ensures ∙ ap (λ q. text_of c.loop-part.self ++ (32 ∷ pair_shown q)) c.pair.ensures)

pub push-requires-2 : goal.push-requires-2
push-requires-2 c =
    omega (
      arith,
      end_fits c.args.line c.args.parts.now c.loop-part.part-index (text_of c.args.self.now) _ _ c.requires.room
          (c.push.ensures ∙ ap (λ x. text_of c.args.self.now ++ (x ∷ [])) c.letter.ensures) c.loop-part.invariant c.loop-part-test.false,
    )

pub returns : goal.returns
returns c =
    line_all (λ p. pair_shown (pair_of c.args.line p)) c.args.parts.now c.loop-part.part-index _ (text_of c.args.self.now) _ _ _ c.loop-part-test.false
    (c.push.ensures ∙ ap (λ x. text_of c.args.self.now ++ (x ∷ [])) c.letter.ensures) c.loop-part.invariant c.push-2.ensures
