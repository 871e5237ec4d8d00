use Rattle.std.proofs.Common.{◌≡◌, ℕ, Bool, List, get_or, sym, ap, ◌∙◌, subst, arith, below_more}
use Rattle.std.proofs.lemmas.List.{get_or-set_other}
use Rattle.schedule.specs.TickRule.{aged}
use Rattle.parts.specs.Parts.{parts_of}
use Rattle.machine.specs.declared.jobs.Job.{Job}
use Rattle.machine.specs.declared.jobs.Job.TheVariants.{Closed}
use Rattle.machine.specs.declared.layout.Layout.{Layout}
use Rattle.machine.specs.Jobs.{meant, Aged}
use Rattle.machine.proofs.dispatcher.Dispatcher.grow_older.Goals as goal

pub loop-task-preserved : goal.loop-task-preserved
loop-task-preserved c =
    let ps = parts_of c.args.self.now.layout.list in
    let running = c.args.running.now in
    let task = c.loop-task.task in
    let before : List Job = c.args.self.now.table.jobs in
    let now : List Job = c.loop-task.self.table.jobs in
    let after : List Job = c.happen.new.self.table.jobs in
    let h = c.happen.ensures in
    let same : c.loop-task.self.layout ≡ c.args.self.now.layout = c.loop-task.invariant.0 in
    let here : get_or now task Closed ≡ get_or before task Closed = c.loop-task.invariant.2 task (omega arith) in
    let other : (i : ℕ) → (i ≡ task → ⊥) → get_or after i Closed ≡ get_or now i Closed = λ i ne. ap (λ (xs : List Job). get_or xs i Closed) h.others ∙ get_or-set_other now task i _ Closed ne in
    let own : Aged (parts_of c.loop-task.self.layout.list) running task (get_or now task Closed) (get_or after task Closed) =
    h.meaning ∙ ap (λ (b : Bool). aged b (meant (parts_of c.loop-task.self.layout.list) (get_or now task Closed))) c.has_run-ran.ensures in
    let own' : Aged ps running task (get_or before task Closed) (get_or after task Closed) =
    subst (λ (j : Job). Aged ps running task j (get_or after task Closed)) here
    (subst (λ (l : Layout). Aged (parts_of l.list) running task (get_or now task Closed) (get_or after task Closed)) same own) in (
      h.layout ∙ same,
      below_more _ task
          (λ i lt. subst (λ (j : Job). Aged ps running i (get_or before i Closed) j) (sym (other i (λ e. omega arith))) (c.loop-task.invariant.1 i lt))
          own',
      λ i from. other i (λ e. omega arith) ∙ c.loop-task.invariant.2 i (omega arith),
    )
