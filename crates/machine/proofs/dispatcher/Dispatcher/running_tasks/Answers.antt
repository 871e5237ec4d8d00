use Rattle.std.proofs.Common.{◌≡◌, ℕ, ◌<◌, get_or, take, sym, ◌∙◌, subst, arith, below_more}
use Rattle.std.proofs.lemmas.List.{length-set, length-take, get_or-take, get_or-set_same, get_or-set_other}
use Rattle.machine.proofs.Ageing.{layout_passed}
use Rattle.machine.proofs.Running.{Names, word_names}
use Rattle.machine.proofs.dispatcher.Dispatcher.running_tasks.Goals as goal

pub loop-processor-preserved : goal.loop-processor-preserved
loop-processor-preserved c =
    let l = c.args.self.now.layout in
    let table = c.args.self.now.table in
    let words = c.ready_words-words.result in
    let p = c.loop-processor.processor in
    let old = c.loop-processor.running in
    let v : ℕ = c.first_in.result in
    let known : p < l.processors = omega (arith, length-take l.processors words, c.loop-processor-test.true) in
    let same : get_or (take l.processors words) p 0 ≡ get_or words p 0 = get_or-take l.processors words p 0 known in
    let within : p < 8 = omega (arith, (layout_passed l).few_procs) in
    let named = subst (Names l table p) (sym c.first_in.ensures)
    (word_names l table p (get_or (take l.processors words) p 0) (same ∙ c.ready_words-words.ensures.value p within)) in (
      length-set old p v ∙ c.loop-processor.invariant.0,
      below_more _ p
          (λ q h. subst (Names l table q) (sym (get_or-set_other old p q v 0 (λ e. omega arith))) (c.loop-processor.invariant.1 q h))
          (subst (Names l table p) (sym (get_or-set_same old p v 0 (omega (arith, c.loop-processor.invariant.0)))) named),
    )

pub returns : goal.returns
returns c =
    let l = c.args.self.now.layout in
    record {
      whole = c.loop-processor.invariant.0;
      value = λ before curve left clock ranked p h.
          let words = c.ready_words-words in
          c.loop-processor.invariant.1 p (omega (arith, length-take l.processors words.result, words.ensures.whole, (layout_passed l).few_procs)) before curve left clock ranked;
    }
