-- What was judged of a candidate, said of what it was made of.
use Rattle.std.proofs.Common.{◌≡◌, ℕ, Bool, Result}
use Rattle.tasks.specs.declared.order.TaskKey.{TaskKey}
use Rattle.tasks.specs.declared.set.TaskSet.{TaskSet}
use Rattle.parts.specs.Parts.{PartList, parts_of}
use Rattle.parts.specs.declared.fault.PlanFault.{PlanFault}
use Rattle.parts.specs.declared.fixed.FixedList.{FixedList}
use Rattle.plan.specs.Answers.{Judged, check_fault}
use Rattle.plan.specs.Candidates.{system_of}
use Rattle.plan.specs.Systems.{system}
use Rattle.plan.specs.declared.candidate.Candidate.{Candidate}

pub judged_of : {O R : Type 0} (before : O → TaskKey → TaskKey → Bool) (curve : R → ℕ → ℕ → ℕ) (plan : Candidate O R)
    {set : TaskSet} {m : ℕ} {list : PartList} {order : O} {rule : R} (room : ℕ) (r : Result (FixedList ℕ 64) PlanFault) →
    (plan.set.now ≡ set) × (plan.processors ≡ m) × (plan.list.now ≡ list) × (plan.order.now ≡ order) × (plan.rule.now ≡ rule) →
    Judged (check_fault plan.set.now plan.processors (parts_of plan.list.now) (before plan.order.now) (curve plan.rule.now) room) (system_of plan before curve) (parts_of plan.list.now) r →
    Judged (check_fault set m (parts_of list) (before order) (curve rule) room) (system set m (parts_of list) (before order) (curve rule)) (parts_of list) r
judged_of before curve plan room r made judged = rw (← made.0, ← made.1, ← made.2, ← made.3, ← made.4) judged
