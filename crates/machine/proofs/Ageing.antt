-- What a tick makes of a record, against the tick rule.
use Rattle.std.proofs.Common.{◌≡◌, ℕ, suc, ◌+◌, ◌-◌, ◌<◌, ◌≤◌, Bool, true, false, cond, eqb, ◌⊎◌, List, length, get_or, Some, None, Option, sym, refl, ap, ◌∙◌, subst, inl, inr, arith}
use Rattle.std.proofs.lemmas.Bool.{and_parts, and_from, ltb-true, lt-ltb, leb-true, le-leb, eq-eqb, ne_eqb, cond-true, cond-false, not-true}
use Rattle.schedule.specs.declared.Part.{Part}
use Rattle.schedule.specs.Lists.{one_if}
use Rattle.schedule.specs.Layout.{Segment}
use Rattle.schedule.specs.TickRule.{open_at, hand_over, aged}
use Rattle.tasks.specs.declared.set.TaskSet.{TaskSet}
use Rattle.plan.specs.Checks.{part_at, number_fault, numbers_pass}
use Rattle.parts.specs.Parts.{parts_of}
use Rattle.machine.specs.declared.jobs.Job.{Job}
use Rattle.machine.specs.declared.jobs.Job.TheVariants.{Waiting, Ready}
use Rattle.machine.specs.declared.layout.Layout.{Layout}
use Rattle.machine.specs.declared.placed.PlacedPart.{PlacedPart}
use Rattle.machine.specs.Jobs.{fits, in_time}
use Rattle.machine.specs.Placing.{begin_at, end_at, next_part, unplaced, Runnable}
use Rattle.plan.proofs.Passing.{Passed, passed, is_none}
use Rattle.machine.proofs.Placing.{next_is, next_begins}
use Rattle.machine.proofs.Tables.{span_bound}

-- The parts of a layout passed the check of their numbers.
pub passed_from : (set : TaskSet) (m : ℕ) (ps : List Part) → numbers_pass set m ps ≡ true → Passed set m ps
passed_from set m ps e = passed set m ps (is_none (number_fault set m ps) (not-true _ e))

pub layout_passed : (l : Layout) → Passed l.set l.processors (parts_of l.list)
layout_passed l = passed_from l.set l.processors (parts_of l.list) l.passed

pub passed_runnable : (set : TaskSet) (m : ℕ) (ps : List Part) → Passed set m ps → Runnable ps
passed_runnable set m ps p = (p.few_parts, λ k h. (omega (arith, (p.known k h).0, set.few), (p.scaled k h).3))

pub layout_runnable : (l : Layout) → Runnable (parts_of l.list)
layout_runnable l = passed_runnable l.set l.processors (parts_of l.list) (layout_passed l)

-- What the place of a part holds.
pub record Held (ps : List Part) (k : ℕ) (d : PlacedPart) : Type 0 where
  pub processor : d.processor ≡ (part_at ps k).processor
  pub cost : d.cost ≡ (part_at ps k).cost
  pub begin : d.begin ≡ begin_at ps k
  pub end : d.end ≡ end_at ps k
  pub next : d.next ≡ next_part ps (part_at ps k).task (suc k)

pub held : (l : Layout) (k : ℕ) → k < length (parts_of l.list) → Held (parts_of l.list) k (get_or l.placed k unplaced)
held l k h =
    let e = l.places k h in
    record {
      processor = ap (λ (d : PlacedPart). d.processor) e;
      cost = ap (λ (d : PlacedPart). d.cost) e;
      begin = ap (λ (d : PlacedPart). d.begin) e;
      end = ap (λ (d : PlacedPart). d.end) e;
      next = ap (λ (d : PlacedPart). d.next) e;
    }

-- A part ends after it begins, and early enough.
pub part_wide : (l : Layout) (k : ℕ) → k < length (parts_of l.list) → begin_at (parts_of l.list) k < end_at (parts_of l.list) k
part_wide l k h = omega (arith, ((layout_passed l).scaled k h).2)

pub part_early : (l : Layout) (k : ℕ) → k < length (parts_of l.list) → end_at (parts_of l.list) k ≤ 6500000
part_early l k h =
    let ps = parts_of l.list in
    omega (arith, span_bound ps (layout_runnable l) k (part_at ps k).task (omega arith), ((layout_passed l).scaled k h).3, (layout_passed l).few_parts)

pub part_works : (l : Layout) (k : ℕ) → k < length (parts_of l.list) → 1 ≤ (part_at (parts_of l.list) k).cost
part_works l k h = ((layout_passed l).scaled k h).0

-- What a waiting and a ready record tell.
pub waiting_fits : (ps : List Part) (age k : ℕ) → fits ps (Waiting age k) ≡ true → (k < length ps) × (age < begin_at ps k)
waiting_fits ps age k e = let a = and_parts _ _ e in (ltb-true _ _ a.0, ltb-true _ _ a.1)

pub ready_fits : (ps : List Part) (age left k : ℕ) → fits ps (Ready age left k) ≡ true → (k < length ps) × (begin_at ps k ≤ age) × (age < end_at ps k) × (1 ≤ left)
ready_fits ps age left k e =
    let a = and_parts _ _ e in
    let b = and_parts _ _ a.1 in
    let d = and_parts _ _ b.1 in
    (ltb-true _ _ a.0, leb-true _ _ b.0, ltb-true _ _ d.0, ltb-true _ _ d.1)

pub fits_ready : (ps : List Part) (age left k : ℕ) → k < length ps → begin_at ps k ≤ age → age < end_at ps k → 1 ≤ left → fits ps (Ready age left k) ≡ true
fits_ready ps age left k h b e l = and_from _ _ (lt-ltb _ _ h) (and_from _ _ (le-leb _ _ b) (and_from _ _ (lt-ltb _ _ e) (lt-ltb _ _ l)))

pub some_in_time : (ps : List Part) (age k : ℕ) → in_time ps age (Some k) ≡ true → (k < length ps) × (age < end_at ps k)
some_in_time ps age k e = let a = and_parts _ _ e in (ltb-true _ _ a.0, ltb-true _ _ a.1)

pub in_time_some : (ps : List Part) (age k : ℕ) → k < length ps → age < end_at ps k → in_time ps age (Some k) ≡ true
in_time_some ps age k h l = and_from _ _ (lt-ltb _ _ h) (lt-ltb _ _ l)

-- A task's first part has not ended at once.
pub first_in_time : (l : Layout) (i : ℕ) → in_time (parts_of l.list) 0 (next_part (parts_of l.list) i 0) ≡ true
first_in_time l i = go (next_part (parts_of l.list) i 0) refl
  where
    go : (o : Option ℕ) → next_part (parts_of l.list) i 0 ≡ o → in_time (parts_of l.list) 0 o ≡ true
    go None e = refl
    go (Some j) e =
        let n = next_is (parts_of l.list) i 0 j (omega arith) e in
        in_time_some (parts_of l.list) 0 j n.within (omega (arith, part_wide l j n.within))

-- A next part has not ended when the part before it ends.
pub next_in_time : (l : Layout) (age k : ℕ) → k < length (parts_of l.list) → age < end_at (parts_of l.list) k →
    in_time (parts_of l.list) (age + 1) (next_part (parts_of l.list) (part_at (parts_of l.list) k).task (suc k)) ≡ true
next_in_time l age k h a = go (next_part (parts_of l.list) (part_at (parts_of l.list) k).task (suc k)) refl
  where
    go : (o : Option ℕ) → next_part (parts_of l.list) (part_at (parts_of l.list) k).task (suc k) ≡ o → in_time (parts_of l.list) (age + 1) o ≡ true
    go None e = refl
    go (Some j) e =
        let ps = parts_of l.list in
        let n = next_is ps (part_at ps k).task (suc k) j (omega arith) e in
        in_time_some ps (age + 1) j n.within (omega (arith, part_wide l j n.within, next_begins ps k j h e))

-- A job that waits only grows older.
pub aged_waiting : (age cost : ℕ) (g : Segment) (gs : List Segment) → 1 ≤ cost → age + 1 < g.end → aged false (open_at age cost g gs) ≡ open_at (age + 1) cost g gs
aged_waiting age cost g gs c e =
    let same : cost - 0 ≡ cost = omega arith in
    cond-false _ _ _ (ne_eqb (cost - 0) 0 (λ z. omega arith)) ∙ cond-false _ _ _ (ne_eqb (age + 1) g.end (λ z. omega arith))
    ∙ ap (λ (n : ℕ). open_at (age + 1) n g gs) same

-- A part with nothing left hands over, and so does one at its end.
pub aged_over : (ran : Bool) (age left : ℕ) (g : Segment) (gs : List Segment) → (left - one_if ran ≡ 0) ⊎ (age + 1 ≡ g.end) → aged ran (open_at age left g gs) ≡ hand_over (age + 1) gs
aged_over ran age left g gs (inl e) = cond-true _ _ _ (eq-eqb _ _ e)
aged_over ran age left g gs (inr e) = go (eqb (left - one_if ran) 0)
  where
    go : (b : Bool) → cond b (hand_over (age + 1) gs) (cond (eqb (age + 1) g.end) (hand_over (age + 1) gs) (open_at (age + 1) (left - one_if ran) g gs)) ≡ hand_over (age + 1) gs
    go true = refl
    go false = cond-true _ _ _ (eq-eqb _ _ e)

-- What is left of a cost after a tick.
pub rest_ran : (ran : Bool) (left rest : ℕ) → ran ≡ true → rest ≡ left - 1 → rest ≡ left - one_if ran
rest_ran ran left rest e r = r ∙ ap (λ (b : Bool). left - one_if b) (sym e)

pub rest_idle : (ran : Bool) (left rest : ℕ) → ran ≡ false → rest ≡ left → rest ≡ left - one_if ran
rest_idle ran left rest e r = let none : left - 0 ≡ left = omega arith in r ∙ sym none ∙ ap (λ (b : Bool). left - one_if b) (sym e)

-- The part of a ready record is one of the plan's, on a processor that there is.
pub on_processor : (l : Layout) (job : Job) (age left part : ℕ) → job ≡ Ready age left part → fits (parts_of l.list) job ≡ true →
    (part < length (parts_of l.list)) × ((get_or l.placed part unplaced).processor < 8)
on_processor l job age left part e f =
    let r = ready_fits (parts_of l.list) age left part (subst (λ (j : Job). fits (parts_of l.list) j ≡ true) e f) in
    (r.0, omega (arith, (held l part r.0).processor, ((layout_passed l).known part r.0).1, (layout_passed l).few_procs))
