use Rattle.std.proofs.Common.{◌≡◌, true, List, is_ok, rules, ◌∙◌, subst}
use Rattle.std.proofs.lemmas.List.{take_more, take_all}
use Rattle.schedule.specs.declared.Part.{Part}
use Rattle.parts.specs.Parts.{Proposed}
use Rattle.parts.proofs.lists.Proposal.from_slice.Goals as goal

pub loop-part-preserved : goal.loop-part-preserved
loop-part-preserved c =
    let ok : is_ok c.push.result ≡ true = search (rules, c.in_ok-map_err.ensures.variant) in
    let unused : Part = record { task = 0; processor = 0; cost = 0; window = 0 } in
    let more = take_more c.args.parts.now c.loop-part.part-index unused c.loop-part-test.true in
    let kept = c.loop-part.invariant in
    let after = simp ok at c.push.ensures.after in
    cc

pub returns : goal.returns
returns c =
    subst (λ (ps : List Part). Proposed ps c.new.result) (c.loop-part.invariant ∙ take_all c.loop-part.part-index c.args.parts.now c.loop-part-test.false) c.new.ensures
