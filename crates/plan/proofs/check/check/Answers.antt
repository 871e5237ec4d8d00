use Rattle.std.proofs.Common.{◌≡◌, ℕ, List, ◌++◌, length, drop, Ok, Option, Result, sym, ap, ◌∙◌, subst, rules}
use Rattle.std.proofs.lemmas.List.{length-map}
use Rattle.schedule.specs.declared.Part.{Part}
use Rattle.tasks.proofs.Orderings.{lawful_order}
use Rattle.parts.specs.Fixed.{elements}
use Rattle.parts.specs.Parts.{parts_of, plan_of}
use Rattle.parts.specs.declared.fault.PlanFault.{PlanFault}
use Rattle.plan.specs.Answers.{Judged, refused_or, check_fault, check_answer}
use Rattle.plan.specs.Checks.{response_times}
use Rattle.plan.specs.Systems.{system}
use Rattle.plan.proofs.Exactness.{exact_answer}
use Rattle.plan.proofs.Judging.{judged_of}
use Rattle.plan.proofs.check.check.Goals as goal

pub returns-in_err-times-clause-exact : goal.returns-in_err-times-clause-exact
returns-in_err-times-clause-exact g c =
    exact_answer c.args.set c.args.processors (plan_of c.args.proposal) (g.O.PriorityOrder.before c.args.order) (g.R.ArrivalRule.curve c.args.rule)
    (lawful_order g.met.O.PriorityOrder c.args.order) (g.met.R.ArrivalRule.curves c.args.rule) (length c.args.responses.now) c.from_residual-in_err-times.result (search rules)

pub returns : goal.returns
returns g c =
    let before = g.O.PriorityOrder.before c.args.order in
    let curve = g.R.ArrivalRule.curve c.args.rule in
    let room = length c.args.responses.now in
    let ps = plan_of c.args.proposal in
    let sys = system c.args.set c.args.processors ps before curve in
    let same : parts_of c.give_up-list.result ≡ ps = c.give_up-list.ensures in
    let judged = subst (λ (l : List Part). Judged (check_fault c.args.set c.args.processors l before curve room) (system c.args.set c.args.processors l before curve) l (Ok c.in_ok-times.times)) same
    (judged_of g.O.PriorityOrder.before g.R.ArrivalRule.curve c.in_ok-new.field-0 room (Ok c.in_ok-times.times) c.in_ok-new.ensures c.in_ok-times.ensures) in
    let listed : elements c.in_ok-times.times ≡ response_times sys ps = judged.1.1 in
    let front : c.copy_from_slice.new.self ≡ response_times sys ps = c.copy_from_slice.ensures.after ∙ c.as_slice.ensures ∙ listed in
    let counted : c.len-count.result ≡ length ps = c.len-count.ensures ∙ ap length listed ∙ length-map ps _ in
    let answer : ◌≡◌ {A = Result ℕ PlanFault} (Ok c.len-count.result) (check_answer c.args.set c.args.processors ps before curve room) =
    ap (λ (n : ℕ). Ok n) counted ∙ ap (λ (o : Option PlanFault). refused_or o (length ps)) (sym judged.0) in
    record {
      answer = answer;
      times = ap (λ (l : List ℕ). l ++ drop c.len-count.result c.args.responses.now) front ∙ ap (λ (n : ℕ). response_times sys ps ++ drop n c.args.responses.now) counted;
      held = search rules;
      exact = exact_answer c.args.set c.args.processors ps before curve (lawful_order g.met.O.PriorityOrder c.args.order) (g.met.R.ArrivalRule.curves c.args.rule) room (Ok c.len-count.result) answer;
    }
