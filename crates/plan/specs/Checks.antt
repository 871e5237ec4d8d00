-- The checks of a plan, in their order, each as the first place where its test fails.
use Rattle.std.specs.Prelude.{ℕ, Bool, not, ◌&&◌, ◌||◌, List, [], ◌∷◌, map, length, is_some, Option, ◌==◌, nat_le, nat_lt, slice_index_or}
use Rattle.std.specs.Option.{option_or, option_map, unwrap_or}
use Rattle.std.specs.Bool.{then_some}
use Rattle.schedule.specs.declared.Part.{Part}
use Rattle.schedule.specs.Layout.{System, span_of, work_of}
use Rattle.tasks.specs.Searches.{first_where}
use Rattle.tasks.specs.Sets.{on_scale, count_of, cost_of}
use Rattle.tasks.specs.declared.fault.SetFault.TheVariants as Sets
use Rattle.tasks.specs.declared.order.TaskKey.{TaskKey}
use Rattle.tasks.specs.declared.set.TaskSet.{TaskSet}
use Rattle.parts.specs.declared.fault.PlanFault.{PlanFault}
use Rattle.parts.specs.declared.fault.PlanFault.TheVariants.{Set, OffScale, Stranger, Twin, Miscount, Overlap, Late}
use Rattle.plan.specs.Responses.{response_within}
use Rattle.plan.specs.Systems.{system}

-- The part at k.
abbrev pub part_at : List Part → ℕ → Part
part_at ps k = slice_index_or ps k (record { task = 0; processor = 0; cost = 0; window = 0 })

-- The cost or the window of part k is outside 1 to 100,000.
abbrev pub off_scale : List Part → ℕ → Bool
off_scale ps k = not (on_scale (part_at ps k).cost) || not (on_scale (part_at ps k).window)

-- Part k names a task or a processor that there is not.
abbrev pub stranger : TaskSet → ℕ → List Part → ℕ → Bool
stranger set m ps k = nat_le (count_of set) (part_at ps k).task || nat_le m (part_at ps k).processor

-- Two parts are of one task and on one processor.
abbrev pub same_place : Part → Part → Bool
same_place p q = p.task == q.task && p.processor == q.processor

-- An earlier part is of the task of part k and on its processor.
abbrev pub twin : List Part → ℕ → Bool
twin ps k = is_some (first_where (λ j. same_place (part_at ps j) (part_at ps k)) k)

-- The costs of the parts of task i do not add up to its cost.
abbrev pub miscount : TaskSet → List Part → ℕ → Bool
miscount set ps i = not (work_of ps i == (cost_of set i))

-- Task i may be released a second time before its last window has ended.
abbrev pub overlap : System → ℕ → Bool
overlap sys i = nat_lt 1 (sys.curve i (span_of sys.parts i))

-- Part k has no response time in its window.
abbrev pub late : System → ℕ → Bool
late sys k = not (is_some (response_within sys (part_at sys.parts k) (part_at sys.parts k).window))

-- What is wrong with the numbers of a plan, whatever the order and the rule: m, the count, numbers off scale, strangers, twins,
-- costs that do not add up.
abbrev pub number_fault : TaskSet → ℕ → List Part → Option PlanFault
number_fault set m ps =
    option_or (then_some (m == 0 || nat_lt 8 m) (Set (Sets.OffScale 0)))
    (option_or (then_some (length ps == 0 || nat_lt 64 (length ps)) (OffScale 0))
    (option_or (option_map OffScale (first_where (off_scale ps) (length ps)))
    (option_or (option_map Stranger (first_where (stranger set m ps) (length ps)))
    (option_or (option_map Twin (first_where (twin ps) (length ps)))
    (option_map Miscount (first_where (miscount set ps) (count_of set)))))))

-- Whether the numbers of a plan pass.
abbrev pub numbers_pass : TaskSet → ℕ → List Part → Bool
numbers_pass set m ps = not (is_some (number_fault set m ps))

module _ (set : TaskSet) (m : ℕ) (ps : List Part) (before : TaskKey → TaskKey → Bool) (curve : ℕ → ℕ → ℕ) where
  -- What the checks before lateness find.
  abbrev pub earlier_fault : Option PlanFault
  earlier_fault = option_or (number_fault set m ps) (option_map Overlap (first_where (overlap (system set m ps before curve)) (count_of set)))

  -- What the check of lateness finds.
  abbrev pub late_fault : Option PlanFault
  late_fault = option_map Late (first_where (late (system set m ps before curve)) (length ps))

  -- What is wrong with a plan: none where it is accepted.
  abbrev pub verdict : Option PlanFault
  verdict = option_or earlier_fault late_fault

-- The response times of the parts, each looked for in its window.
abbrev pub response_times : System → List Part → List ℕ
response_times sys ps = map (λ q. unwrap_or (response_within sys q q.window) 0) ps

-- The one part of the smallest plan.
abbrev pub smallest_parts : List Part
smallest_parts = record { task = 0; processor = 0; cost = 1; window = 1 } ∷ []
