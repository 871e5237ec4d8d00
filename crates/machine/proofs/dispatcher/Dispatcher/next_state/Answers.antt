use Rattle.std.proofs.Common.{◌≡◌, ℕ, ◌+◌, ◌-◌, ◌<◌, ◌≤◌, Bool, true, false, ◌⊎◌, List, length, get_or, Option, sym, refl, ap, ◌∙◌, subst, inl, inr, arith}
use Rattle.std.proofs.lemmas.Bool.{not-true}
use Rattle.schedule.specs.declared.Part.{Part}
use Rattle.schedule.specs.Lists.{one_if}
use Rattle.schedule.specs.TickRule.{open_at, hand_over, aged}
use Rattle.parts.specs.Parts.{parts_of}
use Rattle.plan.specs.Checks.{part_at}
use Rattle.machine.specs.declared.jobs.Event.{Event}
use Rattle.machine.specs.declared.jobs.Event.TheVariants.{Release, Tick}
use Rattle.machine.specs.declared.jobs.Job.{Job}
use Rattle.machine.specs.declared.jobs.Job.TheVariants.{Closed, Waiting, Ready}
use Rattle.machine.specs.Jobs.{meant, fits, in_time, may, after_event}
use Rattle.machine.specs.Placing.{begin_at, end_at, segment_at, later_at, from_part}
use Rattle.machine.proofs.Placing.{segments_first, later_next}
use Rattle.machine.proofs.Ageing
use Rattle.machine.proofs.dispatcher.Dispatcher.next_state.Goals as goal
use Rattle.machine.proofs.dispatcher.Dispatcher.next_state.Goals.{then-ran, else-ran}

-- The job and the event at hand in place of the arguments.
at_hand : (ps : List Part) (i : ℕ) (event e : Event) (job j : Job) → event ≡ e → job ≡ j → after_event ps i event (meant ps job) ≡ after_event ps i e (meant ps j)
at_hand ps i event e job j p q = ap (λ (x : Event). after_event ps i x (meant ps job)) p ∙ ap (λ (x : Job). after_event ps i e (meant ps x)) q

waits : (ps : List Part) (job : Job) (age part : ℕ) → job ≡ Waiting age part → fits ps job ≡ true → (part < length ps) × (age < begin_at ps part)
waits ps job age part e f = Ageing.waiting_fits ps age part (subst (λ (j : Job). fits ps j ≡ true) e f)

runs : (ps : List Part) (job : Job) (age left part : ℕ) → job ≡ Ready age left part → fits ps job ≡ true → (part < length ps) × (begin_at ps part ≤ age) × (age < end_at ps part) × (1 ≤ left)
runs ps job age left part e f = Ageing.ready_fits ps age left part (subst (λ (j : Job). fits ps j ≡ true) e f)

idle : (job : Job) (event : Event) (age part : ℕ) (ran : Bool) → job ≡ Waiting age part → event ≡ Tick ran → may job event ≡ true → ran ≡ false
idle job event age part ran p q m = not-true ran (subst (λ (e : Event). may (Waiting age part) e ≡ true) q (subst (λ (j : Job). may j event ≡ true) p m))

pub begun-requires : goal.begun-requires
begun-requires c =
    let l = c.args.self.now.layout in
    subst (λ (o : Option ℕ). in_time (parts_of l.list) 0 o ≡ true) (sym (l.firsts c.args.task c.requires.known)) (Ageing.first_in_time l c.args.task)

pub overflow_add-age : goal.overflow_add-age
overflow_add-age c =
    let l = c.args.self.now.layout in
    let w = waits (parts_of l.list) (get_or c.args.self.now.table.jobs c.args.task Closed) c.in-Waiting-Tick.age c.in-Waiting-Tick.part c.in-Waiting-Tick.is-0 (c.args.self.now.fitting c.args.task) in
    omega (arith, w.1, Ageing.part_wide l c.in-Waiting-Tick.part w.0, Ageing.part_early l c.in-Waiting-Tick.part w.0)

pub begun-requires-in-Waiting-Tick : goal.begun-requires-in-Waiting-Tick
begun-requires-in-Waiting-Tick c =
    let l = c.args.self.now.layout in
    let w = waits (parts_of l.list) (get_or c.args.self.now.table.jobs c.args.task Closed) c.in-Waiting-Tick.age c.in-Waiting-Tick.part c.in-Waiting-Tick.is-0 (c.args.self.now.fitting c.args.task) in
    Ageing.in_time_some (parts_of l.list) (c.in-Waiting-Tick.age + 1) c.in-Waiting-Tick.part w.0 (omega (arith, w.1, Ageing.part_wide l c.in-Waiting-Tick.part w.0))

pub begun-requires-then-older-end : goal.begun-requires-then-older-end
begun-requires-then-older-end c =
    let l = c.args.self.now.layout in
    let ps = parts_of l.list in
    let age = c.in-Ready-Tick.age in
    let part = c.in-Ready-Tick.part in
    let r = runs ps (get_or c.args.self.now.table.jobs c.args.task Closed) age c.in-Ready-Tick.left part c.in-Ready-Tick.is-0 (c.args.self.now.fitting c.args.task) in
    subst (λ (o : Option ℕ). in_time ps (age + 1) o ≡ true) (sym (Ageing.held l part r.0).next) (Ageing.next_in_time l age part r.0 r.2)

pub returns-in_default-Release-clause-meaning : goal.returns-in_default-Release-clause-meaning
returns-in_default-Release-clause-meaning c =
    let l = c.args.self.now.layout in
    let ps = parts_of l.list in
    c.begun.ensures.meaning ∙ ap (λ (o : Option ℕ). hand_over 0 (from_part ps o)) (l.firsts c.args.task c.requires.known)
    ∙ ap (hand_over 0) (sym (segments_first ps c.args.task)) ∙ sym (at_hand ps c.args.task c.args.event Release (get_or c.args.self.now.table.jobs c.args.task Closed) (get_or c.args.self.now.table.jobs c.args.task Closed) c.in_default-Release.is-1 refl)

pub returns-in-Waiting-Tick-clause-meaning : goal.returns-in-Waiting-Tick-clause-meaning
returns-in-Waiting-Tick-clause-meaning c =
    let l = c.args.self.now.layout in
    let ps = parts_of l.list in
    let age = c.in-Waiting-Tick.age in
    let part = c.in-Waiting-Tick.part in
    let w = waits ps (get_or c.args.self.now.table.jobs c.args.task Closed) age part c.in-Waiting-Tick.is-0 (c.args.self.now.fitting c.args.task) in
    let still = idle (get_or c.args.self.now.table.jobs c.args.task Closed) c.args.event age part c.in-Waiting-Tick.ran-1 c.in-Waiting-Tick.is-0 c.in-Waiting-Tick.is-1 c.requires.may in
    c.begun-in-Waiting-Tick.ensures.meaning
    ∙ sym (Ageing.aged_waiting age (part_at ps part).cost (segment_at ps part) (later_at ps part) (Ageing.part_works l part w.0) (omega (arith, w.1, Ageing.part_wide l part w.0)))
    ∙ ap (λ (b : Bool). aged b (open_at age (part_at ps part).cost (segment_at ps part) (later_at ps part))) (sym still)
    ∙ sym (at_hand ps c.args.task c.args.event (Tick c.in-Waiting-Tick.ran-1) (get_or c.args.self.now.table.jobs c.args.task Closed) (Waiting age part) c.in-Waiting-Tick.is-1 c.in-Waiting-Tick.is-0)

pub returns-then-older-end-clause-meaning : goal.returns-then-older-end-clause-meaning
returns-then-older-end-clause-meaning c =
    let l = c.args.self.now.layout in
    let ps = parts_of l.list in
    let age = c.in-Ready-Tick.age in
    let left = c.in-Ready-Tick.left in
    let part = c.in-Ready-Tick.part in
    let ran = c.in-Ready-Tick.ran in
    let r = runs ps (get_or c.args.self.now.table.jobs c.args.task Closed) age left part c.in-Ready-Tick.is-0 (c.args.self.now.fitting c.args.task) in
    let d = Ageing.held l part r.0 in
    let rest : c.if-ran.rest ≡ left - one_if ran = elim c.if-ran.branch [
      | then-ran w ↦ Ageing.rest_ran ran left c.if-ran.rest w.if-ran.true w.rest-is
      | else-ran w ↦ Ageing.rest_idle ran left c.if-ran.rest w.if-ran.false w.rest-is
    ] in
    let over : (left - one_if ran ≡ 0) ⊎ (age + 1 ≡ end_at ps part) = elim c.if-older-end.either [ inl e ↦ inl (sym rest ∙ e) | inr e ↦ inr (e.1 ∙ d.end) ] in
    c.begun-then-older-end.ensures.meaning
    ∙ ap (λ (o : Option ℕ). hand_over (age + 1) (from_part ps o)) d.next
    ∙ ap (hand_over (age + 1)) (sym (later_next ps part r.0))
    ∙ sym (Ageing.aged_over ran age left (segment_at ps part) (later_at ps part) over)
    ∙ sym (at_hand ps c.args.task c.args.event (Tick ran) (get_or c.args.self.now.table.jobs c.args.task Closed) (Ready age left part) c.in-Ready-Tick.is-1 c.in-Ready-Tick.is-0)
