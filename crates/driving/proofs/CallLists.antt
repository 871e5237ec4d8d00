-- A list of calls made one after another: the machine stays with the tick rule's history.
use Rattle.std.proofs.Common.{◌≡◌, ℕ, zero, suc, ◌+◌, ◌<◌, Bool, List, [], ◌∷◌, ◌++◌, map, length, take, drop, set, sym, refl, ap, ◌∙◌, arith}
use mathlib.Core.List.{map-append}
use Rattle.std.proofs.lemmas.List.{drop-drop, drop-set-lt}
use Rattle.schedule.specs.Layout.{System}
use Rattle.schedule.specs.Sameness.{Same, Alike}
use Rattle.schedule.specs.TickRule.{State, Answer, History, Event, answers, after_call, history, state_after}
use Rattle.schedule.specs.TickRule as rules
use Rattle.schedule.proofs.Histories.{history_snoc, state_snoc, alike_answers, alike_after, alike_same, alike_sym, same_trans}
use Rattle.tasks.specs.Numbers.{as_numbered}
use Rattle.tasks.specs.Orders.{as_asked}
use Rattle.tasks.specs.Sets.{count_of, cost_of, key_of}
use Rattle.tasks.specs.declared.order.TaskKey.{TaskKey}
use Rattle.parts.specs.Parts.{parts_of}
use Rattle.machine.specs.declared.Machine.{Machine}
use Rattle.driving.specs.declared.Call.{Call}
use Rattle.machine.specs.declared.layout.Layout.{Layout}
use Rattle.driving.specs.Driving.{Outcome, call_of, outcome_meant, recorded}
use Rattle.machine.specs.Meaning.{system_of, Obeyed, GoesOn}

module _ {O R : Type 0} (before : O → TaskKey → TaskKey → Bool) (curve : R → ℕ → ℕ → ℕ) where
  -- A machine that goes on runs a system that no call can tell from the one before.
  pub goes_on_alike : (old new : Machine O R) → GoesOn old new curve → Alike (system_of old before curve) (system_of new before curve)
  goes_on_alike old new h =
      let l = sym h.layout in
      let o = sym h.order in
      record {
        tasks = ap (λ (x : Layout). count_of x.set) l;
        procs = ap (λ (x : Layout). x.processors) l;
        parts = ap (λ (x : Layout). parts_of x.list) l;
        costs = λ i hi. ap (λ (x : Layout). cost_of x.set i) l;
        before = λ i k hi hk.
            ap (λ (x : O). before x (as_asked (key_of old.dispatcher.layout.set i)) (as_asked (key_of old.dispatcher.layout.set k))) o
            ∙ ap (λ (x : Layout). before new.order (as_asked (key_of x.set i)) (as_asked (key_of x.set k))) l;
        curve = λ i L hi. sym (h.curves (as_numbered i) L (omega arith));
      }

  pub goes_on_trans : (a b c : Machine O R) → GoesOn a b curve → GoesOn b c curve → GoesOn a c curve
  goes_on_trans a b c h k = record { layout = k.layout ∙ h.layout; order = k.order ∙ h.order; curves = λ i L l. k.curves i L l ∙ h.curves i L l }

  -- One call more, made by a machine that has gone on from a first one.
  pub one_more : (first now next : Machine O R) (s t s' : State) (c : rules.Call) (told : Answer) →
      GoesOn first now curve → Same (system_of first before curve) s t → Obeyed (system_of now before curve) s c told s' →
      (told ≡ answers (system_of first before curve) t c) × Same (system_of first before curve) s' (after_call (system_of first before curve) t c)
  one_more first now next s t s' c told on same obeyed =
      let old = system_of first before curve in
      let new = system_of now before curve in
      let alike = goes_on_alike first now on in
      let back = alike_sym old new alike in
      let here = alike_same old new alike s t same in (
        obeyed.answered ∙ alike_answers new old back s t here c,
        alike_same new old back s' (after_call old t c) (same_trans new s' (after_call new s c) (after_call old t c) obeyed.state (alike_after new old back s t here c)),
      )

-- What is recorded of one call more.
pub recorded_more : (m : ℕ) (cs : List Call) (os : List Outcome) (i : ℕ) (c : Call) (o : Outcome) → length cs ≡ i → i < length os →
    recorded m (cs ++ (c ∷ [])) (set os i o) ≡ recorded m cs os ++ ((call_of c, outcome_meant m o) ∷ [])
recorded_more m [] [] i c o e h = absurd (omega arith)
recorded_more m [] (x ∷ os) zero c o e h = refl
recorded_more m [] (x ∷ os) (suc i) c o e h = absurd (omega arith)
recorded_more m (d ∷ cs) [] i c o e h = absurd (omega arith)
recorded_more m (d ∷ cs) (x ∷ os) zero c o e h = absurd (omega arith)
recorded_more m (d ∷ cs) (x ∷ os) (suc i) c o e h = ap {B = History} (λ l. (call_of d, outcome_meant m x) ∷ l) (recorded_more m cs os i c o (omega arith) (omega arith))

-- A write at i leaves what stands after it, and so do all writes before.
pub rest_more : (os old : List Outcome) (i : ℕ) (o : Outcome) → drop i os ≡ drop i old → drop (i + 1) (set os i o) ≡ drop (i + 1) old
rest_more os old i o e = drop-set-lt (i + 1) os i o (omega arith) ∙ sym (drop-drop 1 i os) ∙ ap (λ (l : List Outcome). drop 1 l) e ∙ drop-drop 1 i old

-- The history and the state of the calls so far, and of one more.
pub history_more : (sys : System) (s : State) (cs : List Call) (i : ℕ) (c : Call) → take (i + 1) cs ≡ take i cs ++ (c ∷ []) →
    (history sys s (map call_of (take (i + 1) cs)) ≡ history sys s (map call_of (take i cs)) ++ ((call_of c, answers sys (state_after sys s (map call_of (take i cs))) (call_of c)) ∷ []))
    × (state_after sys s (map call_of (take (i + 1) cs)) ≡ after_call sys (state_after sys s (map call_of (take i cs))) (call_of c))
history_more sys s cs i c e =
    let m = ap (map call_of) e ∙ map-append call_of (take i cs) (c ∷ []) in
    (ap (history sys s) m ∙ history_snoc sys s (map call_of (take i cs)) (call_of c), ap (state_after sys s) m ∙ state_snoc sys s (map call_of (take i cs)) (call_of c))
