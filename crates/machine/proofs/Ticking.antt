-- A tick of the machine is a tick of the tick rule.
use Rattle.std.proofs.Common.{◌≡◌, ℕ, ◌+◌, ◌^◌, ◌<◌, ◌≤◌, Bool, true, false, eqb, List, map, length, get_or, take, sym, refl, ap, ◌∙◌, subst, arith}
use Rattle.std.proofs.lemmas.List.{get_or-take, get_or_default, length-take-le, length-map}
use Rattle.std.proofs.lemmas.Bool.{ne_eqb, lt-leb, le-leb, lt-ltb, le-ltb, cond-true, cond-false, both_ways}
use Rattle.schedule.specs.TickRule.{tick, ran, refused, answer, job, ready_on, runs_on, ran_in, aged, ticked}
use Rattle.schedule.proofs.facts.Calls.{job_ticked, length_ticked, jobs_equal}
use Rattle.schedule.proofs.facts.Running.{answer_equal}
use Rattle.tasks.specs.Arrivals.{Advanced}
use Rattle.tasks.specs.Numbers.{as_numbered}
use Rattle.tasks.specs.Sets.{count_of}
use Rattle.tasks.specs.declared.order.TaskKey.{TaskKey}
use Rattle.plan.specs.Checks.{part_at}
use Rattle.parts.specs.Parts.{parts_of}
use Rattle.machine.specs.declared.jobs.Job.{Job}
use Rattle.machine.specs.declared.jobs.Job.TheVariants.{Closed, Waiting, Ready}
use Rattle.machine.specs.declared.jobs.JobTable.{JobTable}
use Rattle.machine.specs.declared.layout.Layout.{Layout}
use Rattle.machine.specs.Jobs.{meant, fits, ran_by, Aged}
use Rattle.machine.specs.Layouts.{ByOrder}
use Rattle.machine.specs.Meaning.{laid_system, table_state, Obeyed, Runs}
use Rattle.machine.proofs.Ageing.{layout_passed, ready_fits}
use Rattle.machine.proofs.Obeying.{obeyed_from, obeyed_refused}
use Rattle.machine.proofs.Readiness.{ready_waiting}
use Rattle.machine.proofs.Running.{named_ready}
use Rattle.machine.proofs.States.{meant_job}

module _ (l : Layout) (before : TaskKey → TaskKey → Bool) (curve left : ℕ → ℕ → ℕ) (table : JobTable) (clock : ℕ) where
  -- A machine whose clock has come to its end.
  pub worn_out : (size : ℕ) → 2 ^ 40 ≤ clock → Obeyed (laid_system l before curve) (table_state l table clock left) (tick size) (refused 16 0) (table_state l table clock left)
  worn_out size h = obeyed_refused _ _ _ _ _ (cond-true _ _ _ (le-leb _ _ h))

  -- A buffer that is too short.
  pub cramped : (size : ℕ) → clock < 2 ^ 40 → size < l.processors →
      Obeyed (laid_system l before curve) (table_state l table clock left) (tick size) (refused 17 l.processors) (table_state l table clock left)
  cramped size h short = obeyed_refused _ _ _ _ _ (cond-false _ _ _ (lt-leb _ _ h) ∙ cond-true _ _ _ (lt-ltb _ _ short))

  module _ (running : List ℕ) (runs : Runs l table running) (ranked : ByOrder l before) (fitting : (i : ℕ) → fits (parts_of l.list) (get_or table.jobs i Closed) ≡ true) where
    -- The machine's word on whether a job ran is the tick rule's.
    ran_same : (i : ℕ) (j : Job) → i < count_of l.set → get_or table.jobs i Closed ≡ j →
        ran_by (parts_of l.list) running i j ≡ ran_in (laid_system l before curve) (table_state l table clock left) i (meant (parts_of l.list) j)
    ran_same i Closed h e = refl
    ran_same i (Waiting age part) h e =
        let ps = parts_of l.list in
        let sys = laid_system l before curve in
        let s = table_state l table clock left in
        let p = (part_at ps part).processor in
        let still : ready_on p (job s i) ≡ false =
        ap (ready_on p) (meant_job ps (count_of l.set) table.jobs i h ∙ ap (meant ps) e)
        ∙ ready_waiting ps age part p (subst (λ (j : Job). fits ps j ≡ true) e (fitting i)) in
        sym (ne_eqb (runs_on sys s p) i (λ n. both_ways (ready_on p (job s i)) still (named_ready sys s p i (omega (arith, l.set.few)) n)))
    ran_same i (Ready age rest part) h e =
        let ps = parts_of l.list in
        let r = ready_fits ps age rest part (subst (λ (j : Job). fits ps j ≡ true) e (fitting i)) in
        ap (λ (z : ℕ). eqb z i) (runs before curve left clock ranked (part_at ps part).processor ((layout_passed l).known part r.0).1)

    -- The jobs after a tick.
    jobs_aged : (after : JobTable) → length table.jobs ≡ 32 → length after.jobs ≡ 32 →
        ((i : ℕ) → i < count_of l.set → Aged (parts_of l.list) running i (get_or table.jobs i Closed) (get_or after.jobs i Closed)) →
        map (meant (parts_of l.list)) (take (count_of l.set) after.jobs) ≡ (ticked (laid_system l before curve) (table_state l table clock left)).jobs
    jobs_aged after whole whole' older =
        let ps = parts_of l.list in
        let n = count_of l.set in
        let sys = laid_system l before curve in
        let s = table_state l table clock left in
        let long : (t : JobTable) → length t.jobs ≡ 32 → length (map (meant ps) (take n t.jobs)) ≡ n =
        λ t w. length-map (take n t.jobs) (meant ps) ∙ length-take-le n t.jobs (omega (arith, l.set.few)) in
        jobs_equal n _ _ (long after whole') (length_ticked sys s ∙ long table whole) (λ i h.
        let now : job s i ≡ meant ps (get_or table.jobs i Closed) = meant_job ps n table.jobs i h in
        meant_job ps n after.jobs i h
        ∙ older i h
        ∙ ap (λ (b : Bool). aged b (meant ps (get_or table.jobs i Closed))) (ran_same i (get_or table.jobs i Closed) h refl)
        ∙ sym (job_ticked sys s i ∙ ap (λ j. aged (ran_in sys s i j) j) now))

    -- A tick that is taken.
    pub tick_obeyed : (after : JobTable) (rest : ℕ → ℕ → ℕ) (size : ℕ) (bytes : List ℕ) → clock < 2 ^ 40 → l.processors ≤ size → l.processors ≤ length running →
        bytes ≡ take l.processors running → length table.jobs ≡ 32 → length after.jobs ≡ 32 →
        ((i : ℕ) → i < count_of l.set → Aged (parts_of l.list) running i (get_or table.jobs i Closed) (get_or after.jobs i Closed)) → Advanced curve left rest →
        Obeyed (laid_system l before curve) (table_state l table clock left) (tick size) (ran bytes) (table_state l after (clock + 1) rest)
    tick_obeyed after rest size bytes early room whole_answer written whole whole' older advanced =
        let sys = laid_system l before curve in
        let s = table_state l table clock left in
        let m = l.processors in
        let said : take m running ≡ answer sys s = answer_equal sys s (take m running) (length-take-le m running whole_answer) (λ p h.
        get_or-take m running p 255 h ∙ get_or_default running p 255 0 (omega arith) ∙ runs before curve left clock ranked p h) in
        obeyed_from sys s (table_state l after (clock + 1) rest) (tick size) (ran bytes)
        (cond-false _ _ _ (lt-leb _ _ early) ∙ cond-false _ _ _ (le-ltb _ _ room) ∙ ap ran (sym (written ∙ said)))
        (record {
          clock = refl;
          room = λ i L h o. let low : as_numbered i < 32 = omega arith in advanced (as_numbered i) L low o;
          jobs = jobs_aged after whole whole' older;
        })
