use Rattle.std.proofs.Common.{◌≡◌, ℕ, ◌+◌, ◌^◌, ◌<◌, true, eqb, length, get_or, set, take, sym, refl, ap, ◌∙◌, subst, arith}
use lib.Bits.{bit_or}
use Rattle.std.proofs.lemmas.Nat.{one_shl}
use Rattle.std.proofs.lemmas.List.{length-set, length-take, get_or-take}
use Rattle.schedule.specs.TickRule.{ready_on}
use Rattle.tasks.specs.Sets.{count_of}
use Rattle.parts.specs.Parts.{parts_of}
use Rattle.machine.specs.declared.dispatcher.Dispatcher.{Dispatcher}
use Rattle.machine.specs.declared.jobs.Job.{Job}
use Rattle.machine.specs.declared.jobs.Job.TheVariants.{Closed, Ready}
use Rattle.machine.specs.Jobs.{meant, fits}
use Rattle.machine.specs.Placing.{unplaced}
use Rattle.machine.proofs.Ageing.{held, on_processor}
use Rattle.machine.proofs.Bits.{word_none}
use Rattle.machine.proofs.Readiness.{WordsSoFar, words_idle, words_ready, ready_ready, ready_not}
use Rattle.machine.proofs.Tables.{all_same}
use Rattle.machine.proofs.dispatcher.Dispatcher.ready_words.Goals as goal
use Rattle.machine.proofs.dispatcher.Dispatcher.ready_words.Goals.{in-Ready, in_default}

-- A job among the first n fits.
still_fits : (d : Dispatcher) (n i : ℕ) → i < length (take n d.table.jobs) → fits (parts_of d.layout.list) (get_or (take n d.table.jobs) i Closed) ≡ true
still_fits d n i h = subst (λ (j : Job). fits (parts_of d.layout.list) j ≡ true) (sym (get_or-take n d.table.jobs i Closed (omega (arith, length-take n d.table.jobs)))) (d.fitting i)

pub bounds-words-processor : goal.bounds-words-processor
bounds-words-processor c = rw c.from-processor.ensures ((on_processor c.args.self.now.layout _ c.in-Ready.age c.in-Ready.left c.in-Ready.part c.in-Ready.is (still_fits c.args.self.now c.count.result c.loop-task.task c.loop-task-test.true)).1)

pub bounds-words-processor-in-Ready : goal.bounds-words-processor-in-Ready
bounds-words-processor-in-Ready c = rw c.from-processor.ensures ((on_processor c.args.self.now.layout _ c.in-Ready.age c.in-Ready.left c.in-Ready.part c.in-Ready.is (still_fits c.args.self.now c.count.result c.loop-task.task c.loop-task-test.true)).1)

pub loop-task-init : goal.loop-task-init
loop-task-init c = (refl, λ p h. all_same 8 p 0 ∙ sym (word_none _ 32 (λ r l. refl)))

pub loop-task-preserved : goal.loop-task-preserved
loop-task-preserved c =
    let l = c.args.self.now.layout in
    let table = c.args.self.now.table in
    let ps = parts_of l.list in
    let task = c.loop-task.task in
    let known : task < count_of l.set = omega (arith, c.count.ensures, length-take c.count.result table.jobs, c.loop-task-test.true) in
    let same : get_or (take c.count.result table.jobs) task Closed ≡ get_or table.jobs task Closed = get_or-take c.count.result table.jobs task Closed (omega (arith, c.count.ensures)) in
    elim c.match-job.branch [
      | in-Ready w ↦
          let part = w.in-Ready.part in
          let is : get_or table.jobs task Closed ≡ Ready w.in-Ready.age w.in-Ready.left part = sym same ∙ w.in-Ready.is in
          let at = on_processor l (get_or table.jobs task Closed) w.in-Ready.age w.in-Ready.left part is (c.args.self.now.fitting task) in
          let proc = (held l part at.0).processor in
          let q : ℕ = (get_or l.placed part unplaced).processor in
          let ready : (p : ℕ) → ready_on p (meant ps (get_or table.jobs task Closed)) ≡ eqb q p = λ p.
          ap (λ (j : Job). ready_on p (meant ps j)) is
          ∙ ready_ready ps w.in-Ready.age w.in-Ready.left part p (subst (λ (j : Job). fits ps j ≡ true) is (c.args.self.now.fitting task))
          ∙ ap (λ (z : ℕ). eqb z p) (sym proc) in
          let now : c.match-job.words ≡ set c.loop-task.words q (bit_or (get_or c.loop-task.words q 0) (2 ^ get_or l.ranks task 0)) =
          rw w.from-processor.ensures at w.words-is ∙ ap (λ (z : ℕ). set c.loop-task.words q (bit_or (get_or c.loop-task.words q 0) z)) (one_shl (get_or l.ranks task 0) 32 (l.low task known)) in (
            ap length now ∙ length-set c.loop-task.words q _ ∙ c.loop-task.invariant.0,
            subst (WordsSoFar l table (task + 1)) (sym now) (words_ready l table task q c.loop-task.words c.loop-task.invariant.1 c.loop-task.invariant.0 at.1 (l.low task known) ready),
          )
      | in_default w ↦ (
        ap length w.words-is ∙ c.loop-task.invariant.0,
        subst (WordsSoFar l table (task + 1)) (sym w.words-is)
            (words_idle l table task c.loop-task.words c.loop-task.invariant.1
            (λ p. ready_not ps (get_or table.jobs task Closed) p (c.args.self.now.fitting task) (λ age left part e. w.in_default.not-Ready age left part (same ∙ e)))),
      )
    ]
