-- What it means that a plan's numbers pass, and that a plan passes the check.
use Rattle.std.proofs.Common.{◌≡◌, ℕ, ◌<◌, ◌≤◌, Bool, true, false, not, eqb, ltb, leb, List, length, is_some, Some, None, Option, refl, arith}
use Rattle.std.specs.Option.{option_or, option_map}
use Rattle.std.specs.Bool.{then_some}
use Rattle.std.proofs.lemmas.Bool.{or_parts, and_parts, not-false, not-true, leb-true, leb-false, ltb-false, eqb-true, eqb-false, eq-eqb, and_from, both_ways}
use Rattle.schedule.specs.declared.Part.{Part}
use Rattle.schedule.specs.Layout.{work_of}
use Rattle.tasks.specs.Sets.{on_scale, count_of, cost_of}
use Rattle.tasks.specs.declared.set.TaskSet.{TaskSet}
use Rattle.tasks.proofs.Searches.{none_where}
use Rattle.plan.specs.Checks.{part_at, off_scale, stranger, same_place, twin, miscount, number_fault, numbers_pass}

-- Where nothing is wrong, neither of two checks finds anything.
pub or_none : {A : Type 0} (a b : Option A) → option_or a b ≡ None → (a ≡ None) × (b ≡ None)
or_none None b e = (refl, e)
or_none (Some x) b e = let z : ◌≡◌ {A = ℕ} 0 1 = cc in absurd (omega arith)

pub map_none : {A B : Type 0} (f : A → B) (o : Option A) → option_map f o ≡ None → o ≡ None
map_none f None e = refl
map_none f (Some x) e = let z : ◌≡◌ {A = ℕ} 0 1 = cc in absurd (omega arith)

pub when_none : {A : Type 0} (b : Bool) (x : A) → then_some b x ≡ None → b ≡ false
when_none true x e = let z : ◌≡◌ {A = ℕ} 0 1 = cc in absurd (omega arith)
when_none false x e = refl

pub is_none : {A : Type 0} (o : Option A) → is_some o ≡ false → o ≡ None
is_none None e = refl
is_none (Some x) e = let z : ◌≡◌ {A = ℕ} 0 1 = cc in absurd (omega arith)

-- What a plan whose numbers pass keeps, by the places of its parts.
pub record Passed (set : TaskSet) (m : ℕ) (ps : List Part) : Type 0 where
  pub some_procs : 1 ≤ m
  pub few_procs : m ≤ 8
  pub some_parts : 1 ≤ length ps
  pub few_parts : length ps ≤ 64
  pub scaled : (k : ℕ) → k < length ps → (1 ≤ (part_at ps k).cost) × ((part_at ps k).cost ≤ 100000) × (1 ≤ (part_at ps k).window) × ((part_at ps k).window ≤ 100000)
  pub known : (k : ℕ) → k < length ps → ((part_at ps k).task < count_of set) × ((part_at ps k).processor < m)
  pub apart : (j k : ℕ) → j < k → k < length ps → (part_at ps j).task ≡ (part_at ps k).task → (part_at ps j).processor ≡ (part_at ps k).processor → ⊥
  pub summed : (i : ℕ) → i < count_of set → work_of ps i ≡ cost_of set i

on_scale_is : (n : ℕ) → not (on_scale n) ≡ false → (1 ≤ n) × (n ≤ 100000)
on_scale_is n e =
    let b = and_parts (leb 1 n) (leb n 100000) (not-false (on_scale n) e) in
    (leb-true 1 n b.0, leb-true n 100000 b.1)

pub passed : (set : TaskSet) (m : ℕ) (ps : List Part) → number_fault set m ps ≡ None → Passed set m ps
passed set m ps e =
    let a = or_none _ _ e in
    let b = or_none _ _ a.1 in
    let c = or_none _ _ b.1 in
    let d = or_none _ _ c.1 in
    let f = or_none _ _ d.1 in
    let procs = or_parts (eqb m 0) (ltb 8 m) (when_none _ _ a.0) in
    let counts = or_parts (eqb (length ps) 0) (ltb 64 (length ps)) (when_none _ _ b.0) in
    let no_procs = eqb-false m 0 procs.0 in
    let no_parts = eqb-false (length ps) 0 counts.0 in
    let scales = none_where (off_scale ps) (length ps) (map_none _ _ c.0) in
    let strangers = none_where (stranger set m ps) (length ps) (map_none _ _ d.0) in
    let twins = none_where (twin ps) (length ps) (map_none _ _ f.0) in
    let counted = none_where (miscount set ps) (count_of set) (map_none _ _ f.1) in
    record {
      some_procs = omega (arith, no_procs);
      few_procs = ltb-false 8 m procs.1;
      some_parts = omega (arith, no_parts);
      few_parts = ltb-false 64 (length ps) counts.1;
      scaled = λ k h.
          let parts = or_parts _ _ (scales k h) in
          let cost = on_scale_is (part_at ps k).cost parts.0 in
          let window = on_scale_is (part_at ps k).window parts.1 in
          (cost.0, cost.1, window.0, window.1);
      known = λ k h.
          let parts = or_parts _ _ (strangers k h) in
          (leb-false (count_of set) (part_at ps k).task parts.0, leb-false m (part_at ps k).processor parts.1);
      apart = λ j k lt h same_task same_proc.
          both_ways (same_place (part_at ps j) (part_at ps k)) (none_where (λ x. same_place (part_at ps x) (part_at ps k)) k (is_none _ (twins k h)) j lt)
          (and_from _ _ (eq-eqb _ _ same_task) (eq-eqb _ _ same_proc));
      summed = λ i h. eqb-true _ _ (not-false _ (counted i h));
    }

-- The same, where a test says that they pass.
pub passing : (set : TaskSet) (m : ℕ) (ps : List Part) → numbers_pass set m ps ≡ true → Passed set m ps
passing set m ps e = passed set m ps (is_none (number_fault set m ps) (not-true _ e))
