-- The segments of a task, read off the numbers of its parts: each part's own segment and then those of the next part.
use Rattle.std.proofs.Common.{◌≡◌, ℕ, suc, ◌+◌, ◌<◌, ◌≤◌, cond, eqb, List, [], ◌∷◌, ◌++◌, length, take, drop, Some, sym, refl, ap, ◌∙◌, subst, inl, inr, append_assoc, arith}
use Rattle.std.proofs.lemmas.List.{get_or_at, take_at, take-append-drop, length-take-le, length-append}
use Rattle.std.proofs.lemmas.Bool.{cases_eq, eq-eqb, ne_eqb, cond-true, cond-false}
use Rattle.schedule.specs.declared.Part.{Part}
use Rattle.schedule.specs.Lists.{total}
use Rattle.schedule.specs.Layout.{Segment, segments_from, segments, span_of}
use Rattle.plan.specs.Checks.{part_at}
use Rattle.schedule.proofs.facts.Lists.{total_append}
use Rattle.plan.proofs.Totals.{total_more}
use Rattle.machine.specs.Placing.{next_from, next_part, begin_at, end_at, later_at, from_part}

-- The window of a part counts for its own task alone.
window_own : (p : Part) (i : ℕ) → p.task ≡ i → cond (eqb p.task i) p.window 0 ≡ p.window
window_own p i e = cond-true _ _ _ (eq-eqb _ _ e)

window_other : (p : Part) (i : ℕ) → (p.task ≡ i → ⊥) → cond (eqb p.task i) p.window 0 ≡ 0
window_other p i ne = cond-false _ _ _ (ne_eqb _ _ ne)

span_push : (front : List Part) (p : Part) (i : ℕ) → span_of (front ++ (p ∷ [])) i ≡ span_of front i + cond (eqb p.task i) p.window 0
span_push front p i = omega (arith, total_append (λ (q : Part). cond (eqb q.task i) q.window 0) front (p ∷ []))

length_next : (front : List Part) (p : Part) → length (front ++ (p ∷ [])) ≡ suc (length front)
length_next front p = omega (arith, length-append front (p ∷ []))

-- What stands at the seam of two lists.
at_seam : (front : List Part) (p : Part) (ps : List Part) → part_at (front ++ (p ∷ ps)) (length front) ≡ p
at_seam front p ps = get_or_at front p ps _ (length front) refl

before_seam : (front : List Part) (ps : List Part) → take (length front) (front ++ ps) ≡ front
before_seam front ps = take_at front ps (length front) refl

past_seam : (front : List Part) (p : Part) (ps : List Part) → drop (suc (length front)) (front ++ (p ∷ ps)) ≡ ps
past_seam [] p ps = refl
past_seam (q ∷ front) p ps = past_seam front p ps

-- The segments from a part on, by the part, what is before it and what is after it.
abbrev at_part : Part → List Part → List Part → List Segment
at_part q front rest =
    record { proc = q.processor; cost = q.cost; begin = span_of front q.task; end = span_of front q.task + q.window }
    ∷ segments_from q.task (span_of front q.task + q.window) rest

from_seam : (front : List Part) (p : Part) (ps : List Part) → from_part (front ++ (p ∷ ps)) (Some (length front)) ≡ at_part p front ps
from_seam front p ps =
    ap (λ (q : Part). at_part q (take (length front) (front ++ (p ∷ ps))) (drop (suc (length front)) (front ++ (p ∷ ps)))) (at_seam front p ps)
    ∙ ap (λ (f : List Part). at_part p f (drop (suc (length front)) (front ++ (p ∷ ps)))) (before_seam front (p ∷ ps))
    ∙ ap (at_part p front) (past_seam front p ps)

-- The segments of a task from a place on are those from its next part on.
pub followed : (i : ℕ) (front back : List Part) → segments_from i (span_of front i) back ≡ from_part (front ++ back) (next_from i (length front) back)
followed i front [] = refl
followed i front (p ∷ ps) = elim (cases_eq p.task i) [
  | inl e ↦ subst (λ (z : ℕ). segments_from z (span_of front z) (p ∷ ps) ≡ from_part (front ++ (p ∷ ps)) (next_from z (length front) (p ∷ ps))) e
      (cond-true _ _ _ (eq-eqb p.task p.task refl)
      ∙ sym (from_seam front p ps)
      ∙ ap (from_part (front ++ (p ∷ ps))) (sym (cond-true (eqb p.task p.task) (Some (length front)) (next_from p.task (suc (length front)) ps) (eq-eqb p.task p.task refl))))
  | inr ne ↦
      let rest = followed i (front ++ (p ∷ [])) ps in
      let same : span_of (front ++ (p ∷ [])) i ≡ span_of front i = omega (arith, span_push front p i, window_other p i ne) in
      cond-false _ _ _ (ne_eqb p.task i ne)
      ∙ ap (λ (b : ℕ). segments_from i b ps) (sym same)
      ∙ rest
      ∙ ap (λ (l : List Part). from_part l (next_from i (length (front ++ (p ∷ []))) ps)) (append_assoc front (p ∷ []) ps)
      ∙ ap (λ (n : ℕ). from_part (front ++ (p ∷ ps)) (next_from i n ps)) (length_next front p)
      ∙ ap (from_part (front ++ (p ∷ ps))) (sym (cond-false (eqb p.task i) (Some (length front)) (next_from i (suc (length front)) ps) (ne_eqb p.task i ne)))
]

-- All segments of a task are those from its first part on.
pub segments_first : (ps : List Part) (i : ℕ) → segments ps i ≡ from_part ps (next_part ps i 0)
segments_first ps i = followed i [] ps

-- What a part's end adds up to.
pub end_span : (ps : List Part) (k : ℕ) → k < length ps → span_of (take (suc k) ps) (part_at ps k).task ≡ end_at ps k
end_span ps k h =
    let i = (part_at ps k).task in
    let f : Part → ℕ = λ (q : Part). cond (eqb q.task i) q.window 0 in
    let up : suc k ≡ k + 1 = omega arith in
    let one : total f (take (suc k) ps) ≡ total f (take (k + 1) ps) = ap (λ (n : ℕ). total f (take n ps)) up in
    let more = total_more f ps k (record { task = 0; processor = 0; cost = 0; window = 0 }) h in
    omega (arith, one, more, window_own (part_at ps k) i refl)

-- The segments after a part are those from its next part on.
pub later_next : (ps : List Part) (k : ℕ) → k < length ps → later_at ps k ≡ from_part ps (next_part ps (part_at ps k).task (suc k))
later_next ps k h =
    let i = (part_at ps k).task in
    let front = take (suc k) ps in
    let back = drop (suc k) ps in
    ap (λ (b : ℕ). segments_from i b back) (sym (end_span ps k h))
    ∙ followed i front back
    ∙ ap (λ (l : List Part). from_part l (next_from i (length front) back)) (take-append-drop (suc k) ps)
    ∙ ap (λ (n : ℕ). from_part ps (next_from i n back)) (length-take-le (suc k) ps (omega arith))

-- The next part of a task is one of the plan, of that task, and none of the task's is in between.
pub record Next (ps : List Part) (i from j : ℕ) : Type 0 where
  pub within : j < length ps
  pub own : (part_at ps j).task ≡ i
  pub span : span_of (take j ps) i ≡ span_of (take from ps) i

next_seam : (i : ℕ) (front back : List Part) (j : ℕ) → next_from i (length front) back ≡ Some j → Next (front ++ back) i (length front) j
next_seam i front [] j e = absurd (cc)
next_seam i front (p ∷ ps) j e = elim (cases_eq p.task i) [
  | inl own ↦
      let here : Some (length front) ≡ Some j = sym (cond-true (eqb p.task i) (Some (length front)) (next_from i (suc (length front)) ps) (eq-eqb p.task i own)) ∙ e in
      let same : length front ≡ j = cc in
      subst (λ (z : ℕ). Next (front ++ (p ∷ ps)) i (length front) z) same (record {
        within = omega (arith, length-append front (p ∷ ps));
        own = ap (λ (q : Part). q.task) (at_seam front p ps) ∙ own;
        span = refl;
      })
  | inr ne ↦
      let there : next_from i (suc (length front)) ps ≡ Some j = sym (cond-false (eqb p.task i) (Some (length front)) (next_from i (suc (length front)) ps) (ne_eqb p.task i ne)) ∙ e in
      let grown : next_from i (length (front ++ (p ∷ []))) ps ≡ Some j = ap (λ (n : ℕ). next_from i n ps) (length_next front p) ∙ there in
      let rest : Next (front ++ (p ∷ ps)) i (length (front ++ (p ∷ []))) j = subst (λ (l : List Part). Next l i (length (front ++ (p ∷ []))) j) (append_assoc front (p ∷ []) ps) (next_seam i (front ++ (p ∷ [])) ps j grown) in
      let same : span_of (front ++ (p ∷ [])) i ≡ span_of front i = omega (arith, span_push front p i, window_other p i ne) in
      let to : span_of (take (length (front ++ (p ∷ []))) (front ++ (p ∷ ps))) i ≡ span_of (front ++ (p ∷ [])) i =
      ap (λ (l : List Part). span_of (take (length (front ++ (p ∷ []))) l) i) (sym (append_assoc front (p ∷ []) ps)) ∙ ap (λ (l : List Part). span_of l i) (before_seam (front ++ (p ∷ [])) ps) in
      let fro : span_of (take (length front) (front ++ (p ∷ ps))) i ≡ span_of front i = ap (λ (l : List Part). span_of l i) (before_seam front (p ∷ ps)) in
      record { within = rest.within; own = rest.own; span = rest.span ∙ to ∙ same ∙ sym fro }
]

pub next_is : (ps : List Part) (i from j : ℕ) → from ≤ length ps → next_part ps i from ≡ Some j → Next ps i from j
next_is ps i from j h e =
    let n : length (take from ps) ≡ from = length-take-le from ps h in
    let all : take from ps ++ drop from ps ≡ ps = take-append-drop from ps in
    let there : next_from i (length (take from ps)) (drop from ps) ≡ Some j = ap (λ (z : ℕ). next_from i z (drop from ps)) n ∙ e in
    subst (λ (z : ℕ). Next ps i z j) n (subst (λ (l : List Part). Next l i (length (take from ps)) j) all (next_seam i (take from ps) (drop from ps) j there))

-- A next part begins where the part before it ends.
pub next_begins : (ps : List Part) (k j : ℕ) → k < length ps → next_part ps (part_at ps k).task (suc k) ≡ Some j → begin_at ps j ≡ end_at ps k
next_begins ps k j h e =
    let n = next_is ps (part_at ps k).task (suc k) j (omega arith) e in
    ap (span_of (take j ps)) n.own ∙ n.span ∙ end_span ps k h
