use Rattle.std.proofs.Common.{◌∙◌}
use Rattle.spa2.proofs.Reserves.{taken_known}
use Rattle.spa2.proofs.state.Planner.choose.Goals as goal

pub invariant_of-self : goal.invariant_of-self
invariant_of-self c =
    let self = c.args.self.now in
    let took = c.take_front.ensures in
    record { few = self.few; spacious = self.spacious; roomy = took.room ∙ self.roomy; known = taken_known _ _ _ c.take_front.result took.after self.known }
