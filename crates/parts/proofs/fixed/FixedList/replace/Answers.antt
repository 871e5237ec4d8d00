use Rattle.std.proofs.Math.Seq.{take-set-lt}
use Rattle.parts.proofs.fixed.FixedList.replace.Goals as goal

pub returns-then-index-self : goal.returns-then-index-self
returns-then-index-self g c = take-set-lt _ _ _ _ c.if-index-self.true
