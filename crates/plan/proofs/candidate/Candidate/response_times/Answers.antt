use Rattle.std.proofs.Common.{◌≡◌, ℕ, ◌<◌, not, List, ◌++◌, [], ◌∷◌, length, is_some, Option, sym, ap, ◌∙◌, arith, below_more, rules}
use Rattle.std.proofs.lemmas.List.{take_all}
use Rattle.std.proofs.lemmas.Result.{err_from_is_err_and}
use Rattle.parts.specs.Fixed.{elements}
use Rattle.parts.specs.Parts.{parts_of}
use Rattle.tasks.proofs.Searches.{first_found, first_none}
use Rattle.plan.specs.Candidates.{system_of}
use Rattle.plan.specs.Checks.{late, response_times}
use Rattle.plan.proofs.Timing.{in_window, timed_more, late_as_found}
use Rattle.plan.proofs.candidate.Candidate.response_times.Goals as goal

pub returns-in_err-time : goal.returns-in_err-time
returns-in_err-time g c =
    let plan = c.args.self.now in
    let ps = parts_of plan.list.now in
    let sys = system_of plan g.O.PriorityOrder.before g.R.ArrivalRule.curve in
    let i = c.loop-index.index in
    let p = err_from_is_err_and c.from_residual.result c.from_residual.ensures.1 in
    let none = c.in_err-time.ensures.ok_part in
    let within : i < length ps = omega (arith, ap length c.as_slice-part-items.ensures) in
    let timed = in_window plan.set.now plan.processors ps plan.passed sys c.as_slice-part-items.result.now c.as_slice-part-items.ensures i within
    c.response_time.result (c.response_time.ensures.value plan.processors) in
    let first = first_found (late sys) (length ps) i within c.loop-index.invariant.0
    (ap (λ (o : Option ℕ). not (is_some o)) (sym timed ∙ none)) in
    rw (p.1, p.2) (late_as_found _ _ _ _ none c.in_err-time.ensures.value (sym first))

pub loop-index-preserved : goal.loop-index-preserved
loop-index-preserved g c =
    let plan = c.args.self.now in
    let ps = parts_of plan.list.now in
    let sys = system_of plan g.O.PriorityOrder.before g.R.ArrivalRule.curve in
    let i = c.loop-index.index in
    let found = c.in_ok-time.ensures.ok_part in
    let within : i < length ps = omega (arith, ap length c.as_slice-part-items.ensures) in
    let timed = in_window plan.set.now plan.processors ps plan.passed sys c.as_slice-part-items.result.now c.as_slice-part-items.ensures i within
    c.response_time.result (c.response_time.ensures.value plan.processors) in
    let pushed : elements c.push.new.self ≡ elements c.loop-index.times ++ (c.in_ok-time.time ∷ []) = search rules in (
      below_more _ _ c.loop-index.invariant.0 (ap (λ (o : Option ℕ). not (is_some o)) (sym timed ∙ found)),
      pushed ∙ ap (λ (ts : List ℕ). ts ++ (c.in_ok-time.time ∷ [])) c.loop-index.invariant.1 ∙ timed_more sys ps i c.in_ok-time.time within (sym found ∙ timed),
    )

pub returns : goal.returns
returns g c =
    let sys = system_of c.args.self.now g.O.PriorityOrder.before g.R.ArrivalRule.curve in
    let ps = parts_of c.args.self.now.list.now in
    let past = ap length c.as_slice-part-items.ensures in (
      sym (first_none (late sys) (length ps) (λ k h. c.loop-index.invariant.0 k (omega (arith, past)))),
      c.loop-index.invariant.1 ∙ ap (response_times sys) (take_all c.loop-index.index ps (omega (arith, past))),
    )
