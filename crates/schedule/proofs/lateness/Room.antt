-- One job beside the room of its task: an open job keeps room away, so that no release is taken while it is open.
use Rattle.std.proofs.Common.{◌≡◌, ℕ, ◌+◌, ◌-◌, ◌≤◌, min, Bool, List, [], ◌∷◌, ap, add-zero, arith}
use Rattle.schedule.specs.Curves.{Curve}
use Rattle.schedule.specs.Layout.{Segment}
use Rattle.schedule.specs.TickRule.{Job, closed, open_at, hand_over, aged}
use Rattle.schedule.proofs.facts.Curves.{StepsFrom, steps_mono}
use Rattle.schedule.proofs.facts.Jobs.{aged_either}

-- While a job is open at some age, what its task may still be admitted in L ticks is less than the curve at L and that age.
abbrev pub Held : (ℕ → ℕ) → (ℕ → ℕ) → Job → Type 0
Held curve room closed = Unit {0}
Held curve room (open_at age left g gs) = (L : ℕ) → 1 ≤ L → room L + 1 ≤ curve (L + age)

-- The room that is left, beside a job: below the curve, growing by 0 or 1 with each tick, and held by an open job.
pub record Roomy (curve room : ℕ → ℕ) (j : Job) : Type 0 where
  pub under : (L : ℕ) → room L ≤ curve L
  pub steps : StepsFrom room 1
  pub held : Held curve room j

-- The room after a tick.
abbrev pub later : (ℕ → ℕ) → (ℕ → ℕ) → ℕ → ℕ
later curve room L = min (room (L + 1)) (curve L)

held_over : (curve room : ℕ → ℕ) (age : ℕ) (gs : List Segment) → ((L : ℕ) → 1 ≤ L → room L + 1 ≤ curve (L + age)) → Held curve (later curve room) (hand_over (age + 1) gs)
held_over curve room age [] h = tt
held_over curve room age (g ∷ gs) h = λ L o.
    let e : curve (L + (age + 1)) ≡ curve ((L + 1) + age) = ap curve (omega arith) in
    omega (arith, h (L + 1) (omega arith))

held_aged : (curve room : ℕ → ℕ) (r : Bool) (j : Job) → Held curve room j → Held curve (later curve room) (aged r j)
held_aged curve room r closed h = tt
held_aged curve room r (open_at age left g gs) h =
    aged_either r age left g gs (Held curve (later curve room)) (λ w. held_over curve room age gs h) (λ n d L o.
    let e' : curve (L + (age + 1)) ≡ curve ((L + 1) + age) = ap curve (omega arith) in
    omega (arith, h (L + 1) (omega arith)))

pub roomy_aged : (curve room : ℕ → ℕ) → Curve curve → (r : Bool) (j : Job) → Roomy curve room j → Roomy curve (later curve room) (aged r j)
roomy_aged curve room cv r j rm = record {
  under = λ L. omega arith;
  steps = λ L o. omega (arith, cv.steps L, rm.steps (L + 1) (omega arith));
  held = held_aged curve room r j rm.held;
}

-- The room that a taken release leaves, beside the job that it opens.
held_opened : (curve room : ℕ → ℕ) (segs : List Segment) → ((L : ℕ) → room L ≤ curve L) → ((L : ℕ) → 1 ≤ L → 1 ≤ room L) → Held curve (λ L. room L - 1) (hand_over 0 segs)
held_opened curve room [] u o = tt
held_opened curve room (g ∷ gs) u o = λ L l. rw (add-zero L) (omega (arith, u L, o L l))

pub roomy_opened : (curve room : ℕ → ℕ) (segs : List Segment) → Roomy curve room closed → 1 ≤ room 1 → Roomy curve (λ L. room L - 1) (hand_over 0 segs)
roomy_opened curve room segs rm h = record {
  under = λ L. omega (arith, rm.under L);
  steps = λ L o. omega (arith, rm.steps L o);
  held = held_opened curve room segs rm.under (λ L l. omega (arith, steps_mono room 1 rm.steps 1 L (omega arith) l));
}

pub roomy_closed : (curve room : ℕ → ℕ) (j : Job) → Roomy curve room j → Roomy curve room closed
roomy_closed curve room j rm = record { under = rm.under; steps = rm.steps; held = tt }
