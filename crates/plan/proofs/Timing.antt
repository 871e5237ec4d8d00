-- The response times of a plan, part by part.
use Rattle.std.proofs.Common.{◌≡◌, ℕ, ◌+◌, ◌<◌, true, List, [], ◌∷◌, ◌++◌, length, take, Some, None, Err, Option, unwrap_or, sym, ap, ◌∙◌, subst, arith}
use Rattle.std.specs.Option.{option_map, ok_or}
use Rattle.std.proofs.lemmas.List.{take_more, map-append}
use Rattle.schedule.specs.declared.Part.{Part}
use Rattle.schedule.specs.Layout.{System}
use Rattle.tasks.specs.Numbers.{as_long}
use Rattle.tasks.specs.declared.set.TaskSet.{TaskSet}
use Rattle.parts.specs.declared.fault.PlanFault.{PlanFault}
use Rattle.parts.specs.declared.fault.PlanFault.TheVariants.{Late}
use Rattle.plan.specs.Checks.{part_at, numbers_pass, response_times}
use Rattle.plan.specs.Responses.{response_within}
use Rattle.plan.proofs.Passing.{passing}

-- A part whose response time was looked for in the window that the question reads, which is the part's own.
pub in_window : (set : TaskSet) (m : ℕ) (ps : List Part) → numbers_pass set m ps ≡ true → (sys : System) (items : List Part) → items ≡ ps → (k : ℕ) → k < length ps →
    (r : Option ℕ) → r ≡ response_within sys (part_at items k) (as_long (part_at items k).window) → r ≡ response_within sys (part_at ps k) (part_at ps k).window
in_window set m ps pass sys items same k h r e =
    let short = ((passing set m ps pass).scaled k h).3 in
    let exact : as_long (part_at ps k).window ≡ (part_at ps k).window = omega (arith, short) in
    subst (λ (l : List Part). r ≡ response_within sys (part_at l k) (as_long (part_at l k).window)) same e ∙ ap (response_within sys (part_at ps k)) exact

-- One response time more.
pub timed_more : (sys : System) (ps : List Part) (k t : ℕ) → k < length ps → Some t ≡ response_within sys (part_at ps k) (part_at ps k).window →
    response_times sys (take k ps) ++ (t ∷ []) ≡ response_times sys (take (k + 1) ps)
timed_more sys ps k t h e =
    let own : t ≡ unwrap_or (response_within sys (part_at ps k) (part_at ps k).window) 0 = ap (λ (o : Option ℕ). unwrap_or o 0) e in
    let more = ap (response_times sys) (take_more ps k (record { task = 0; processor = 0; cost = 0; window = 0 }) h) in
    ap (λ (x : ℕ). response_times sys (take k ps) ++ (x ∷ [])) own ∙ sym (more ∙ map-append _ (take k ps) (part_at ps k ∷ []))

-- The fault of a part that has no time, where it is the first such part.
pub late_as_found : (time found : Option ℕ) (k : ℕ) (f : PlanFault) → time ≡ None → Err f ≡ ok_or time (Late k) → found ≡ Some k → option_map Late found ≡ Some f
late_as_found time found k f none value first = cc
