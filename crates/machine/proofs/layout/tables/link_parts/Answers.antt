use Rattle.std.proofs.Common.{◌≡◌, ℕ, suc, List, [], ◌∷◌, length, get_or, set, take, Some, None, Option, sym, refl, ap, ◌∙◌, subst, inl, inr, arith}
use Rattle.std.proofs.lemmas.Bool.{cases_eq}
use Rattle.std.proofs.lemmas.List.{length-append, length-set, get_or-set_same, get_or-set_other, take_all}
use Rattle.std.specs.Iterator.Adapters.{enumerate_source, rev_source}
use Rattle.std.specs.Slice.Iter.{iter_rest}
use Rattle.schedule.specs.declared.Part.{Part}
use Rattle.plan.specs.Checks.{part_at}
use Rattle.machine.specs.Placing.{placed_at, unplaced}
use Rattle.machine.specs.declared.placed.PlacedPart.{PlacedPart}
use Rattle.machine.proofs.Tables.{all_same, next_end, firsts_more, split_last, Firsts}
use Rattle.machine.proofs.layout.tables.link_parts.Goals as goal

pub loop-k-init : goal.loop-k-init
loop-k-init c =
    let ps = c.args.parts.now in
    let all : iter_rest (enumerate_source (rev_source c.into_iter-k-iterator.result)) ≡ ps =
    ap (λ r. iter_rest (enumerate_source (rev_source r))) c.into_iter-k-iterator.ensures.into_iter_gives
    ∙ ap (λ e. iter_rest (enumerate_source e)) c.rev-k-items.ensures.source ∙ ap iter_rest c.enumerate.ensures.source ∙ c.iter.ensures.rest in
    let long : length (iter_rest (enumerate_source (rev_source c.into_iter-k-iterator.result))) ≡ length ps = ap length all in (
      (cc),
      all ∙ sym (take_all _ ps (omega arith)),
      c.requires.whole,
      refl,
      (λ i h. all_same 32 i None ∙ sym (next_end ps i _ (omega arith))),
      (λ j low high. absurd (omega arith)),
      (λ j low. c.requires.unlinked j (omega arith)),
    )

pub loop-k-preserved : goal.loop-k-preserved
loop-k-preserved c = rw c.from-task.ensures (
    let ps = c.args.parts.now in
    let inv = c.loop-k.invariant in
    let rest : List Part = iter_rest (enumerate_source (rev_source c.next.new.self)) in
    let step = c.in-Some.ensures.steps in
    let last = split_last ps rest c.in-Some.part.now (subst (λ (xs : List Part). xs ≡ take (length xs) ps) step.1.0 inv.1) in
    let k : ℕ = length rest in
    let at : c.in-Some.k ≡ k = omega (arith, step.1.1, inv.0) in
    let up : length (iter_rest (enumerate_source (rev_source c.loop-k.k-iterator))) ≡ suc k = omega (arith, ap length step.1.0, length-append rest (c.in-Some.part.now ∷ [])) in
    let sound = c.requires.runnable.1 k last.2 in
    let firsts : Firsts ps (suc k) c.loop-k.first = subst (λ (n : ℕ). Firsts ps n c.loop-k.first) up inv.4 in
    let linked : PlacedPart → Option ℕ → PlacedPart = λ d o. record d { next = o } in
    let first' : ℕ → Part → List (Option ℕ) = λ n p. set c.loop-k.first p.task (Some n) in
    let placed' : ℕ → Part → List PlacedPart = λ n p. set c.loop-k.placed n (linked (get_or c.loop-k.placed n unplaced) (get_or c.loop-k.first p.task None)) in
    let firsts' : first' c.in-Some.k c.in-Some.part.now ≡ first' k (part_at ps k) = ap (λ (n : ℕ). first' n c.in-Some.part.now) at ∙ ap (first' k) last.1 in
    let parts' : placed' c.in-Some.k c.in-Some.part.now ≡ placed' k (part_at ps k) = ap (λ (n : ℕ). placed' n c.in-Some.part.now) at ∙ ap (placed' k) last.1 in (
      step.0 ∙ inv.0,
      last.0,
      length-set c.loop-k.placed _ _ ∙ inv.2,
      length-set c.loop-k.first _ _ ∙ inv.3,
      subst (Firsts ps k) (sym firsts') (firsts_more ps k c.loop-k.first last.2 inv.3 sound.0 firsts),
      (λ j low high. ap (λ (xs : List PlacedPart). get_or xs j unplaced) parts' ∙ elim (cases_eq j k) [
        | inl e ↦ subst (λ (z : ℕ). get_or (placed' k (part_at ps k)) z unplaced ≡ placed_at ps z) (sym e)
            (get_or-set_same c.loop-k.placed k _ unplaced (omega (arith, inv.2, c.requires.runnable.0, last.2))
            ∙ ap (λ (d : PlacedPart). linked d (get_or c.loop-k.first (part_at ps k).task None)) (inv.6 k (omega arith))
            ∙ ap (linked (placed_at ps k)) (firsts (part_at ps k).task sound.0))
        | inr ne ↦ get_or-set_other c.loop-k.placed k j _ unplaced ne ∙ inv.5 j (omega arith) high
      ]),
      (λ j low. ap (λ (xs : List PlacedPart). get_or xs j unplaced) parts' ∙ get_or-set_other c.loop-k.placed k j _ unplaced (λ e. omega arith) ∙ inv.6 j (omega arith)),
    )
    )
