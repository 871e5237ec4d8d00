use Rattle.std.proofs.Common.{◌≡◌, ℕ, ◌≤◌, length, Ok, sym, ◌∙◌, arith}
use Rattle.tasks.specs.Numbers.{as_numbered}
use Rattle.tasks.specs.Orders.{as_asked}
use Rattle.tasks.specs.Sets.{key_of}
use Rattle.parts.specs.Parts.{parts_of}
use Rattle.plan.specs.Responses.{response_within}
use Rattle.spa2.specs.Placing.{tasks_of, parts_placed}
use Rattle.spa2.specs.Plans.{system_of}
use Rattle.spa2.proofs.Laws.Proposed.{lawful_plan, made_lawful}
use Rattle.spa2.proofs.Laws.Spans.{response_most}
use Rattle.parts.proofs.Listing.{listed_length}
use Rattle.spa2.proofs.Starts.{parts_some, windowed_length, proposed_answer, spa2_done, refused_alike}
use Rattle.spa2.proofs.planning.plan.Goals as goal

pub returns : goal.returns
returns g c =
    let set = c.args.set.now in
    let t = tasks_of set in
    let m = c.args.processors in
    let counted = c.in_ok-check_processors.ensures in
    let before = λ (a b : ℕ). g.O.PriorityOrder.before c.args.order.now (as_asked (key_of set a)) (as_asked (key_of set b)) in
    let curve = λ (i : ℕ). g.R.ArrivalRule.curve c.args.rule.now (as_numbered i) in
    let ps = parts_of c.in_ok-parts.parts in
    let list = c.in_ok-with_windows.field-0 in
    let qs = parts_of list in
    let placed : parts_placed t m ≡ Ok ps = sym c.in_ok-parts.ensures in
    let some = parts_some t m ps set.some placed in
    let long = windowed_length t (response_within (system_of t m before curve ps)) ps _ qs (sym c.in_ok-with_windows.ensures) in
    let given = sym c.in_ok-with_windows.ensures in
    let most : 1 ≤ length qs = omega (arith, some, long) in
    let answer = proposed_answer qs c.new.result most (omega (arith, listed_length list, list.few)) c.new.ensures in
    let sys = system_of t m before curve ps in
    let same = answer ∙ sym (spa2_done t m before curve ps qs counted.0 counted.1 placed given) in
    record {
      value = same;
      refusal = refused_alike c.new.result _ same;
      lawful = made_lawful set m (g.O.PriorityOrder.before c.args.order.now) (g.R.ArrivalRule.curve c.args.rule.now) qs c.new.result answer
          (lawful_plan set m (g.O.PriorityOrder.before c.args.order.now) (g.R.ArrivalRule.curve c.args.rule.now) (response_within sys) ps qs (response_most sys)
          counted.0 counted.1 most placed given);
    }
