use Rattle.std.proofs.Common.{ℕ, ◌+◌, None, refl, ap, ◌∙◌, arith, below_none, below_more}
use Rattle.std.proofs.lemmas.List.{length-set, get_or-set_same, get_or-set_other}
use Rattle.plan.specs.Checks.{part_at}
use Rattle.machine.specs.Placing.{unplaced}
use Rattle.machine.specs.declared.placed.PlacedPart.{PlacedPart}
use Rattle.machine.proofs.Tables.{all_same, spans_more}
use Rattle.machine.proofs.layout.tables.placed_of.Goals as goal

pub loop-k-init : goal.loop-k-init
loop-k-init c = (refl, refl, (λ i h. (all_same 32 i 0, omega (arith, all_same {X = ℕ} 32 i 0))), below_none _)

pub loop-k-preserved : goal.loop-k-preserved
loop-k-preserved c = rw c.from-task.ensures (
    let ps = c.args.parts.now in
    let k = c.loop-k.k in
    let sound = c.requires.1 k c.loop-k-test.true in
    let made : ℕ → PlacedPart = λ b. record { processor = (part_at ps k).processor; cost = (part_at ps k).cost; begin = b; end = b + (part_at ps k).window; next = None } in (
      length-set c.loop-k.spans _ _ ∙ c.loop-k.invariant.0,
      length-set c.loop-k.placed _ _ ∙ c.loop-k.invariant.1,
      spans_more ps k c.loop-k.spans c.loop-k-test.true c.loop-k.invariant.0 sound.0 sound.1 c.loop-k.invariant.2,
      below_more _ _
          (λ j h. get_or-set_other c.loop-k.placed k j _ unplaced (λ e. omega arith) ∙ c.loop-k.invariant.3 j h)
          (get_or-set_same c.loop-k.placed k _ unplaced (omega (arith, c.loop-k.invariant.1, c.requires.0)) ∙ ap made (c.loop-k.invariant.2 (part_at ps k).task sound.0).0),
    )
    )
