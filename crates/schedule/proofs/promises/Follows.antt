-- What a history looks like to one job: which events leave it, age it, end it, and what a tick takes from what it owes.
use Rattle.std.proofs.Common.{◌≡◌, ℕ, ◌+◌, ◌-◌, ◌<◌, ◌≤◌, Bool, true, false, cond, eqb, List, [], ◌∷◌, get_or, refl, arith}
use Rattle.schedule.specs.Lists.{one_if}
use Rattle.schedule.specs.Layout.{Segment}
use Rattle.schedule.specs.TickRule.{Job, closed, open_at, aged, Event, History}
use Rattle.schedule.specs.Promise.{ticks_in, releases, finishes, bytes}
use Rattle.schedule.proofs.facts.Jobs.{aged_on_time, Shape, owed, owed_hand_over}

-- An event names task i on processor q, and nowhere else, where b holds; and not at all where it does not.
pub record Names (i : ℕ) (e : Event) (b : Bool) (q : ℕ) : Type 0 where
  pub at : (p : ℕ) → one_if (eqb (get_or (bytes e) p 255) i) ≡ cond b (one_if (eqb q p)) 0

-- What a history looks like to one job of task i, whose segments are segs.
pub data Follows (segs : List Segment) (i : ℕ) : Job → History → Type 0 where
  over : {j : Job} → Shape segs j → Follows segs i j []
  starts : {e : Event} {es : History} → releases i e ≡ true → Follows segs i closed (e ∷ es)
  ends : {j : Job} {e : Event} {es : History} → Shape segs j → releases i e ≡ false → finishes i e ≡ true → ticks_in e ≡ 0 → Names i e false 0 →
      Follows segs i closed es → Follows segs i j (e ∷ es)
  stays : {j : Job} {e : Event} {es : History} → Shape segs j → releases i e ≡ false → finishes i e ≡ false → ticks_in e ≡ 0 → Names i e false 0 →
      Follows segs i j es → Follows segs i j (e ∷ es)
  sleeps : {e : Event} {es : History} → releases i e ≡ false → finishes i e ≡ false → ticks_in e ≡ 1 → Names i e false 0 →
      Follows segs i closed es → Follows segs i closed (e ∷ es)
  ages : {e : Event} {es : History} (b : Bool) (age left : ℕ) (g : Segment) (gs : List Segment) → Shape segs (open_at age left g gs) →
      releases i e ≡ false → finishes i e ≡ false → ticks_in e ≡ 1 → Names i e b g.proc → ((left - one_if b ≡ 0 → ⊥) → age + 1 < g.end) →
      Follows segs i (aged b (open_at age left g gs)) es → Follows segs i (open_at age left g gs) (e ∷ es)

-- A job on time owes, before a tick, what it runs in the tick and what it owes after it.
spend : (b v : Bool) (left : ℕ) → 1 ≤ left → cond v left 0 ≡ cond b (one_if v) 0 + cond v (left - one_if b) 0
spend true true left p = omega arith
spend true false left p = omega arith
spend false true left p = omega arith
spend false false left p = omega arith

nothing_left : (v : Bool) (n : ℕ) → n ≡ 0 → cond v n 0 ≡ 0
nothing_left true n e = e
nothing_left false n e = refl

pub owed_aged : (w : Segment → Bool) (b : Bool) (age left : ℕ) (g : Segment) (gs : List Segment) → 1 ≤ left → ((left - one_if b ≡ 0 → ⊥) → age + 1 < g.end) →
    owed w (open_at age left g gs) ≡ cond b (one_if (w g)) 0 + owed w (aged b (open_at age left g gs))
owed_aged w b age left g gs p l =
    aged_on_time b age left g gs (λ j. owed w (open_at age left g gs) ≡ cond b (one_if (w g)) 0 + owed w j) l
    (λ z. omega (arith, owed_hand_over w (age + 1) gs, spend b (w g) left p, nothing_left (w g) (left - one_if b) z))
    (λ n k. omega (arith, spend b (w g) left p))
