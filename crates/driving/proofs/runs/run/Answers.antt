use Rattle.std.proofs.Common.{◌≡◌, ◌+◌, ◌<◌, List, [], ◌∷◌, ◌++◌, map, length, get_or, take, set, Ok, sym, ap, ◌∙◌, subst, arith, below_more, get_or-set_other, get_or-set_same}
use Rattle.std.proofs.lemmas.List.{take_more, length-take-le}
use Rattle.schedule.specs.TickRule.{Answer, History, answers, history, state_after}
use Rattle.schedule.specs.Sameness.{Same}
use Rattle.driving.specs.declared.Call.{Call}
use Rattle.driving.specs.declared.Call.TheVariants.{Release}
use Rattle.driving.specs.declared.Done.TheVariants.{Taken}
use Rattle.machine.specs.declared.layout.Layout.{Layout}
use Rattle.machine.specs.Meaning.{ByMachine, system_of, state_of}
use Rattle.driving.specs.Driving.{call_of, outcome_meant, recorded}
use Rattle.driving.proofs.CallLists.{goes_on_trans, one_more, recorded_more, rest_more, history_more}
use Rattle.driving.proofs.runs.run.Goals as goal

pub loop-i-preserved : goal.loop-i-preserved
loop-i-preserved g c =
    let first = c.args.machine.now in
    let now = c.loop-i.machine in
    let next = c.make_call.new.machine in
    let before = g.O.PriorityOrder.before in
    let curve = g.R.ArrivalRule.curve in
    let left = g.R.ArrivalRule.left in
    let sys = system_of first before curve in
    let s = state_of first left in
    let i = c.loop-i.i in
    let calls = c.args.calls.now in
    let call : Call = get_or calls i (Release 0) in
    let result = c.make_call.result in
    let inv = c.loop-i.invariant in
    let t = state_after sys s (map call_of (take i calls)) in
    let m = first.dispatcher.layout.processors in
    let step = one_more before curve first now next (state_of now left) t (state_of next left) (call_of call) (outcome_meant now.dispatcher.layout.processors result) inv.0 inv.2 c.make_call.ensures.obeyed in
    let told : outcome_meant m result ≡ answers sys t (call_of call) = ap (λ (x : Layout). outcome_meant x.processors result) (sym inv.0.layout) ∙ step.0 in
    let grown : take (i + 1) calls ≡ take i calls ++ (call ∷ []) = take_more calls i (Release 0) c.loop-i-test.true in
    let h = history_more sys s calls i call grown in
    let room : i < length c.loop-i.outcomes = omega (arith, c.requires.room) in
    let record_more : recorded m (take (i + 1) calls) (set c.loop-i.outcomes i result) ≡ history sys s (map call_of (take (i + 1) calls)) =
    ap (λ (cs : List Call). recorded m cs (set c.loop-i.outcomes i result)) grown
    ∙ recorded_more m (take i calls) c.loop-i.outcomes i call result (length-take-le i calls (omega arith)) room
    ∙ ap (λ (l : History). l ++ ((call_of call, outcome_meant m result) ∷ [])) inv.1
    ∙ ap (λ (a : Answer). history sys s (map call_of (take i calls)) ++ ((call_of call, a) ∷ [])) told
    ∙ sym h.0 in (
      goes_on_trans before curve first now next inv.0 c.make_call.ensures.same,
      record_more,
      subst (Same sys (state_of next left)) (sym h.1) step.1,
      rest_more c.loop-i.outcomes c.args.outcomes.now i result inv.3,
      below_more _ i
          (λ k h. subst ByMachine (sym (get_or-set_other c.loop-i.outcomes i k result (Ok Taken) (λ e. omega arith))) (inv.4 k h))
          (subst ByMachine (sym (get_or-set_same c.loop-i.outcomes i result (Ok Taken) room)) c.make_call.ensures.own),
    )
