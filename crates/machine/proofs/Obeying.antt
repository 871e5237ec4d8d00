-- What a machine does at a call is what the tick rule says.
use Rattle.std.proofs.Common.{◌≡◌, ℕ, ◌-◌, ◌<◌, ◌≤◌, Bool, true, false, cond, eqb, List, map, get_or, take, set, sym, refl, ap, ◌∙◌, subst, arith}
use Rattle.std.proofs.lemmas.Bool.{lt-ltb, le-ltb, eq-eqb, ne_eqb, cond-true, cond-false, not_from_true, not_from_false}
use Rattle.schedule.specs.Layout.{System, segments}
use Rattle.schedule.specs.TickRule.{State, Call, release, finish, tick, Answer, taken, refused, answers, leaves, closed, is_closed, job, hand_over}
use Rattle.schedule.specs.Sameness.{Same}
use Rattle.schedule.proofs.Histories.{same_refl}
use Rattle.tasks.specs.Arrivals.{Admitted}
use Rattle.tasks.specs.Numbers.{as_numbered}
use Rattle.tasks.specs.Sets.{count_of}
use Rattle.tasks.specs.declared.order.TaskKey.{TaskKey}
use Rattle.parts.specs.Parts.{parts_of}
use Rattle.machine.specs.declared.jobs.Job.{Job}
use Rattle.machine.specs.declared.jobs.Job.TheVariants.{Closed}
use Rattle.machine.specs.declared.jobs.JobTable.{JobTable}
use Rattle.machine.specs.declared.layout.Layout.{Layout}
use Rattle.machine.specs.Jobs.{meant}
use Rattle.machine.specs.Meaning.{laid_system, table_state, Obeyed}
use Rattle.machine.proofs.States.{meant_job, meant_set}

-- A call that answered so, and left that state.
pub obeyed_from : (sys : System) (old new : State) (c : Call) (a : Answer) → answers sys old c ≡ a → Same sys new (leaves sys old c a) → Obeyed sys old c a new
obeyed_from sys old new c a e s = record { answered = sym e; state = subst (λ an. Same sys new (leaves sys old c an)) (sym e) s }

-- A call that is refused changes nothing.
pub obeyed_refused : (sys : System) (s : State) (c : Call) (k p : ℕ) → answers sys s c ≡ refused k p → Obeyed sys s c (refused k p) s
obeyed_refused sys s (release i) k p e = obeyed_from sys s s (release i) (refused k p) e (same_refl sys s)
obeyed_refused sys s (finish i) k p e = obeyed_from sys s s (finish i) (refused k p) e (same_refl sys s)
obeyed_refused sys s (tick n) k p e = obeyed_from sys s s (tick n) (refused k p) e (same_refl sys s)

-- A state that is left under the same layout.
pub obeyed_on : (l l' : Layout) → l' ≡ l → (sys : System) (old : State) (c : Call) (told : Answer) (table : JobTable) (clock : ℕ) (left : ℕ → ℕ → ℕ) →
    Obeyed sys old c told (table_state l table clock left) → Obeyed sys old c told (table_state l' table clock left)
obeyed_on l l' e sys old c told table clock left h = subst (λ (x : Layout). Obeyed sys old c told (table_state x table clock left)) (sym e) h

module _ (l : Layout) (before : TaskKey → TaskKey → Bool) (curve left : ℕ → ℕ → ℕ) (table : JobTable) (clock : ℕ) where
  -- A task that there is not.
  pub unknown_released : (i : ℕ) → count_of l.set ≤ i → Obeyed (laid_system l before curve) (table_state l table clock left) (release i) (refused 13 i) (table_state l table clock left)
  unknown_released i h = obeyed_refused _ _ _ _ _ (cond-true _ _ _ (not_from_false _ (le-ltb i (count_of l.set) h)))

  pub unknown_finished : (i : ℕ) → count_of l.set ≤ i → Obeyed (laid_system l before curve) (table_state l table clock left) (finish i) (refused 13 i) (table_state l table clock left)
  unknown_finished i h = obeyed_refused _ _ _ _ _ (cond-true _ _ _ (not_from_false _ (le-ltb i (count_of l.set) h)))

  -- A release that the rule does not admit.
  pub too_soon : (i : ℕ) → i < count_of l.set → left (as_numbered i) 1 ≡ 0 →
      Obeyed (laid_system l before curve) (table_state l table clock left) (release i) (refused 14 i) (table_state l table clock left)
  too_soon i h e = obeyed_refused _ _ _ _ _ (cond-false _ _ _ (not_from_true _ (lt-ltb i (count_of l.set) h)) ∙ cond-true _ _ _ (eq-eqb _ _ e))

  -- A finish with no job.
  pub no_job : (i : ℕ) → i < count_of l.set → get_or table.jobs i Closed ≡ Closed →
      Obeyed (laid_system l before curve) (table_state l table clock left) (finish i) (refused 15 i) (table_state l table clock left)
  no_job i h e =
      let shut : job (table_state l table clock left) i ≡ closed = meant_job (parts_of l.list) (count_of l.set) table.jobs i h ∙ ap (meant (parts_of l.list)) e in
      obeyed_refused _ _ _ _ _ (cond-false _ _ _ (not_from_true _ (lt-ltb i (count_of l.set) h)) ∙ cond-true _ _ _ (ap is_closed shut))

  jobs_set : (after : JobTable) (i : ℕ) (j : Job) → after.jobs ≡ set table.jobs i j →
      map (meant (parts_of l.list)) (take (count_of l.set) after.jobs) ≡ set (map (meant (parts_of l.list)) (take (count_of l.set) table.jobs)) i (meant (parts_of l.list) j)
  jobs_set after i j e =
      ap (λ (js : List Job). map (meant (parts_of l.list)) (take (count_of l.set) js)) e ∙ meant_set (parts_of l.list) (count_of l.set) table.jobs i j

  -- A release that is taken.
  pub released : (after : JobTable) (rest : ℕ → ℕ → ℕ) (i : ℕ) (j : Job) → i < count_of l.set → (left (as_numbered i) 1 ≡ 0 → ⊥) → Admitted true (as_numbered i) left rest →
      after.jobs ≡ set table.jobs i j → meant (parts_of l.list) j ≡ hand_over 0 (segments (parts_of l.list) i) →
      Obeyed (laid_system l before curve) (table_state l table clock left) (release i) taken (table_state l after clock rest)
  released after rest i j h some falls e m = obeyed_from _ _ _ _ _
      (cond-false _ _ _ (not_from_true _ (lt-ltb i (count_of l.set) h)) ∙ cond-false _ _ _ (ne_eqb _ _ some))
      (record {
        clock = refl;
        room = λ k L hk o.
            let low : as_numbered k < 32 = omega arith in
            let own : as_numbered k ≡ k = omega (arith, l.set.few) in
            let its : as_numbered i ≡ i = omega (arith, l.set.few) in
            falls (as_numbered k) L low o
            ∙ ap (λ (z : ℕ). cond (eqb z (as_numbered i)) (left (as_numbered k) L - 1) (left (as_numbered k) L)) own
            ∙ ap (λ (z : ℕ). cond (eqb k z) (left (as_numbered k) L - 1) (left (as_numbered k) L)) its;
        jobs = jobs_set after i j e ∙ ap (set (map (meant (parts_of l.list)) (take (count_of l.set) table.jobs)) i) m;
      })

  -- A finish that is taken.
  pub finished : (after : JobTable) (i : ℕ) (j : Job) → i < count_of l.set → is_closed (meant (parts_of l.list) (get_or table.jobs i Closed)) ≡ false →
      after.jobs ≡ set table.jobs i j → meant (parts_of l.list) j ≡ closed →
      Obeyed (laid_system l before curve) (table_state l table clock left) (finish i) taken (table_state l after clock left)
  finished after i j h some e m = obeyed_from _ _ _ _ _
      (cond-false _ _ _ (not_from_true _ (lt-ltb i (count_of l.set) h))
      ∙ cond-false _ _ _ (ap is_closed (meant_job (parts_of l.list) (count_of l.set) table.jobs i h) ∙ some))
      (record {
        clock = refl;
        room = λ k L hk o. refl;
        jobs = jobs_set after i j e ∙ ap (set (map (meant (parts_of l.list)) (take (count_of l.set) table.jobs)) i) m;
      })
