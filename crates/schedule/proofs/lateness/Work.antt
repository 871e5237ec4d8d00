-- What one part may still have to run in the next L ticks, and what each call makes of it.
use Rattle.std.proofs.Common.{◌≡◌, ℕ, ◌+◌, ◌-◌, ◌*◌, ◌<◌, ◌≤◌, Bool, true, false, cond, ◌&&◌, eqb, ltb, leb, List, [], ◌∷◌, sym, refl, ap, ◌∙◌, inl, inr, add-zero, mul-le-mul_right, add-mul, arith}
use Rattle.std.proofs.lemmas.Bool.{cases_Bool, cases_lt, lt-ltb, le-ltb, le-leb}
use Rattle.std.proofs.lemmas.Bool.Decides.{nat_tests}
use Rattle.schedule.specs.Lists.{◌∈◌, one_if}
use Rattle.schedule.specs.Curves.{Curve}
use Rattle.schedule.specs.Layout.{Segment}
use Rattle.schedule.specs.TickRule.{Job, closed, open_at, ready_on, hand_over, aged}
use Rattle.schedule.proofs.facts.Lists.{to_T}
use Rattle.schedule.proofs.facts.Curves.{steps_mono, curve_mono}
use Rattle.schedule.proofs.facts.Running.{ready_parts, ready_from}
use Rattle.schedule.proofs.facts.Jobs.{aged_either, Shaped, Shape, shaped_in, Linked, next_later}
use Rattle.schedule.proofs.lateness.Room.{Roomy, later, roomy_aged}

-- What is left of a part with processor p and begin b, where its window began before this tick.
abbrev pub carried : ℕ → ℕ → Job → ℕ
carried p b closed = 0
carried p b (open_at age left g gs) = cond (eqb g.proc p && ltb b age) left 0

-- 1 where an open job has yet to begin it, within L ticks.
abbrev pub waiting : ℕ → Job → ℕ → ℕ
waiting b closed L = 0
waiting b (open_at age left g gs) L = one_if (leb age b && ltb b (L + age))

-- The jobs yet to be released that can begin it within L ticks.
abbrev pub admitted : ℕ → (ℕ → ℕ) → ℕ → ℕ
admitted b room L = cond (ltb b L) (room (L - b)) 0

-- All of it, for a part of cost c.
abbrev pub pending : ℕ → ℕ → ℕ → (ℕ → ℕ) → Job → ℕ → ℕ
pending p b c room j L = carried p b j + (waiting b j L + admitted b room L) * c

-- The segments of a task on processor p begin at b and cost c.
abbrev pub Meets : List Segment → ℕ → ℕ → ℕ → Type 0
Meets segs p b c = (g : Segment) → g ∈ segs → g.proc ≡ p → (g.begin ≡ b) × (g.cost ≡ c)

-- The same count, as a cost.
abbrev pub waiting_cost : ℕ → ℕ → Job → ℕ → ℕ
waiting_cost b c closed L = 0
waiting_cost b c (open_at age left g gs) L = cond (leb age b && ltb b (L + age)) c 0

one_if_mul : (t : Bool) (c : ℕ) → one_if t * c ≡ cond t c 0
one_if_mul true c = omega arith
one_if_mul false c = omega arith

waiting_mul : (b c : ℕ) (j : Job) (L : ℕ) → waiting b j L * c ≡ waiting_cost b c j L
waiting_mul b c closed L = omega arith
waiting_mul b c (open_at age left g gs) L = one_if_mul (leb age b && ltb b (L + age)) c

pub pending_sum : (p b c : ℕ) (room : ℕ → ℕ) (j : Job) (L : ℕ) → pending p b c room j L ≡ carried p b j + waiting_cost b c j L + admitted b room L * c
pending_sum p b c room j L = omega (arith, add-mul (waiting b j L) (admitted b room L) c, waiting_mul b c j L)

admitted_later : (b : ℕ) (curve room : ℕ → ℕ) (L : ℕ) → admitted b (later curve room) L ≤ admitted b room (L + 1)
admitted_later b curve room L =
    elim (cases_lt b L) [
      | inl h ↦ let e : room ((L - b) + 1) ≡ room ((L + 1) - b) = ap room (omega arith) in
          rw (lt-ltb b L h, lt-ltb b (L + 1) (omega arith)) (omega arith)
      | inr h ↦ rw (le-ltb b L h) (omega arith)
    ]

-- Any tick: the bound for L ticks after it is at most the bound for one tick more before it.
stay_any : (p b c age left left' begin proc L : ℕ) (k : ℕ) → left' ≤ left → left ≤ k → (proc ≡ p → (begin ≡ b) × (k ≡ c)) →
    cond (eqb proc p && ltb b (age + 1)) left' 0 + cond (leb (age + 1) b && ltb b (L + (age + 1))) c 0
    ≤ cond (eqb proc p && ltb b age) left 0 + cond (leb age b && ltb b ((L + 1) + age)) c 0
stay_any p b c age left left' begin proc L k h1 h2 m = grind (arith, nat_tests)

over_any : (p b c age left begin proc proc' cost' begin' L : ℕ) → age + 1 ≤ begin' → (proc' ≡ p → begin' ≡ b) →
    cond (eqb proc' p && ltb b (age + 1)) cost' 0 + cond (leb (age + 1) b && ltb b (L + (age + 1))) c 0
    ≤ cond (eqb proc p && ltb b age) left 0 + cond (leb age b && ltb b ((L + 1) + age)) c 0
over_any p b c age left begin proc proc' cost' begin' L h m = grind (arith, nat_tests)

over_work : (segs : List Segment) → Linked segs → (p b c : ℕ) → Meets segs p b c → (age left : ℕ) (g : Segment) (gs : List Segment) → Shaped segs age left g gs → (L : ℕ) →
    carried p b (hand_over (age + 1) gs) + waiting_cost b c (hand_over (age + 1) gs) L
    ≤ carried p b (open_at age left g gs) + waiting_cost b c (open_at age left g gs) (L + 1)
over_work segs lk p b c mt age left g [] sh L = omega arith
over_work segs lk p b c mt age left g (h ∷ gs) sh L =
    let n : (age + 1 ≤ h.begin) × (h ∈ segs) = next_later segs lk age left g h gs sh in
    over_any p b c age left g.begin g.proc h.proc h.cost h.begin L n.0 (λ e. (mt h n.1 e).0)

job_any : (segs : List Segment) → Linked segs → (p b c : ℕ) → Meets segs p b c → (r : Bool) (j : Job) → Shape segs j → (L : ℕ) →
    carried p b (aged r j) + waiting_cost b c (aged r j) L ≤ carried p b j + waiting_cost b c j (L + 1)
job_any segs lk p b c mt r closed sh L = omega arith
job_any segs lk p b c mt r (open_at age left g gs) sh L =
    let before = carried p b (open_at age left g gs) + waiting_cost b c (open_at age left g gs) (L + 1) in
    aged_either r age left g gs (λ j. carried p b j + waiting_cost b c j L ≤ before)
    (λ w. over_work segs lk p b c mt age left g gs sh L)
    (λ n d. stay_any p b c age left (left - one_if r) g.begin g.proc L g.cost (omega arith) sh.most (mt g (shaped_in segs age left g gs sh)))

pub pending_any : (segs : List Segment) → Linked segs → (p b c : ℕ) → Meets segs p b c → (curve room : ℕ → ℕ) (r : Bool) (j : Job) → Shape segs j → (L : ℕ) →
    pending p b c (later curve room) (aged r j) L ≤ pending p b c room j (L + 1)
pending_any segs lk p b c mt curve room r j sh L =
    let m : admitted b (later curve room) L * c ≤ admitted b room (L + 1) * c = mul-le-mul_right c (admitted_later b curve room L) in
    omega (arith, pending_sum p b c (later curve room) (aged r j) L, pending_sum p b c room j (L + 1), job_any segs lk p b c mt r j sh L)

-- A tick in which the part ran: the bound falls by one.
stay_ran : (p b c age left begin proc L : ℕ) (k : ℕ) → 1 ≤ left → left ≤ k → proc ≡ p → begin ≡ b → k ≡ c → begin ≤ age →
    cond (eqb proc p && ltb b (age + 1)) (left - 1) 0 + cond (leb (age + 1) b && ltb b (L + (age + 1))) c 0
    < cond (eqb proc p && ltb b age) left 0 + cond (leb age b && ltb b ((L + 1) + age)) c 0
stay_ran p b c age left begin proc L k h0 h1 m1 m2 m3 h2 = grind (arith, nat_tests)

over_ran : (p b c age left begin proc proc' cost' begin' L k : ℕ) → 1 ≤ left → left ≤ k → proc ≡ p → begin ≡ b → k ≡ c → begin ≤ age → age + 1 ≤ begin' → (proc' ≡ p → begin' ≡ b) →
    cond (eqb proc' p && ltb b (age + 1)) cost' 0 + cond (leb (age + 1) b && ltb b (L + (age + 1))) c 0
    < cond (eqb proc p && ltb b age) left 0 + cond (leb age b && ltb b ((L + 1) + age)) c 0
over_ran p b c age left begin proc proc' cost' begin' L k h0 h1 m1 m2 m3 h2 h3 m = grind (arith, nat_tests)

none_ran : (p b c age left begin proc L k : ℕ) → 1 ≤ left → left ≤ k → proc ≡ p → begin ≡ b → k ≡ c → begin ≤ age →
    0 + 0 < cond (eqb proc p && ltb b age) left 0 + cond (leb age b && ltb b ((L + 1) + age)) c 0
none_ran p b c age left begin proc L k h0 h1 m1 m2 m3 h2 = grind (arith, nat_tests)

over_work_ran : (segs : List Segment) → Linked segs → (p b c : ℕ) → Meets segs p b c → (age left : ℕ) (g : Segment) (gs : List Segment) → Shaped segs age left g gs → g.proc ≡ p → g.begin ≤ age → (L : ℕ) →
    carried p b (hand_over (age + 1) gs) + waiting_cost b c (hand_over (age + 1) gs) L
    < carried p b (open_at age left g gs) + waiting_cost b c (open_at age left g gs) (L + 1)
over_work_ran segs lk p b c mt age left g [] sh ep hb L =
    let m : (g.begin ≡ b) × (g.cost ≡ c) = mt g (shaped_in segs age left g [] sh) ep in
    none_ran p b c age left g.begin g.proc L g.cost sh.some sh.most ep m.0 m.1 hb
over_work_ran segs lk p b c mt age left g (h ∷ gs) sh ep hb L =
    let m : (g.begin ≡ b) × (g.cost ≡ c) = mt g (shaped_in segs age left g (h ∷ gs) sh) ep in
    let n : (age + 1 ≤ h.begin) × (h ∈ segs) = next_later segs lk age left g h gs sh in
    over_ran p b c age left g.begin g.proc h.proc h.cost h.begin L g.cost sh.some sh.most ep m.0 m.1 hb n.0 (λ e. (mt h n.1 e).0)

job_ran : (segs : List Segment) → Linked segs → (p b c : ℕ) → Meets segs p b c → (j : Job) → Shape segs j → ready_on p j ≡ true → (L : ℕ) →
    carried p b (aged true j) + waiting_cost b c (aged true j) L < carried p b j + waiting_cost b c j (L + 1)
job_ran segs lk p b c mt closed sh rd L = absurd (to_T false rd)
job_ran segs lk p b c mt (open_at age left g gs) sh rd L =
    let q : (g.proc ≡ p) × (g.begin ≤ age) × (1 ≤ left) = ready_parts p age left g gs rd in
    let m : (g.begin ≡ b) × (g.cost ≡ c) = mt g (shaped_in segs age left g gs sh) q.0 in
    let before = carried p b (open_at age left g gs) + waiting_cost b c (open_at age left g gs) (L + 1) in
    aged_either true age left g gs (λ j. carried p b j + waiting_cost b c j L < before)
    (λ w. over_work_ran segs lk p b c mt age left g gs sh q.0 q.1 L)
    (λ n d. stay_ran p b c age left g.begin g.proc L g.cost sh.some sh.most q.0 m.0 m.1 q.1)

pub pending_ran : (segs : List Segment) → Linked segs → (p b c : ℕ) → Meets segs p b c → (curve room : ℕ → ℕ) (j : Job) → Shape segs j → ready_on p j ≡ true → (L : ℕ) →
    pending p b c (later curve room) (aged true j) L < pending p b c room j (L + 1)
pending_ran segs lk p b c mt curve room j sh rd L =
    let m : admitted b (later curve room) L * c ≤ admitted b room (L + 1) * c = mul-le-mul_right c (admitted_later b curve room L) in
    omega (arith, pending_sum p b c (later curve room) (aged true j) L, pending_sum p b c room j (L + 1), job_ran segs lk p b c mt j sh rd L)

-- What is yet to come of it is at most what the curve admits.
admitted_curve : (b : ℕ) (curve room : ℕ → ℕ) → Curve curve → ((L : ℕ) → room L ≤ curve L) → (L : ℕ) → admitted b room L ≤ curve L
admitted_curve b curve room cv u L =
    elim (cases_lt b L) [
      | inl h ↦ rw (lt-ltb b L h) (omega (arith, u (L - b), curve_mono curve cv.steps (L - b) L (omega arith)))
      | inr h ↦ rw (le-ltb b L h) (omega arith)
    ]

coming_test : (age b L : ℕ) → (leb age b && ltb b (L + age)) ≡ true → (age ≤ b) × (b < L + age)
coming_test age b L e = grind (arith, nat_tests)

coming_open : (b : ℕ) (curve room : ℕ → ℕ) → Curve curve → (age : ℕ) → ((L : ℕ) → 1 ≤ L → room L + 1 ≤ curve (L + age)) → (L : ℕ) → (age ≤ b) × (b < L + age) → 1 + admitted b room L ≤ curve L
coming_open b curve room cv age h L t =
    elim (cases_lt b L) [
      | inl l ↦ rw (lt-ltb b L l) (omega (arith, h (L - b) (omega arith), curve_mono curve cv.steps ((L - b) + age) L (omega arith)))
      | inr l ↦ rw (le-ltb b L l) (omega (arith, cv.single, curve_mono curve cv.steps 1 L (omega arith)))
    ]

pub coming_curve : (b : ℕ) (curve room : ℕ → ℕ) → Curve curve → (j : Job) → Roomy curve room j → (L : ℕ) → waiting b j L + admitted b room L ≤ curve L
coming_curve b curve room cv closed rm L = omega (arith, admitted_curve b curve room cv rm.under L)
coming_curve b curve room cv (open_at age left g gs) rm L =
    elim (cases_Bool (leb age b && ltb b (L + age))) [
      | inl e ↦ rw e (coming_open b curve room cv age rm.held L (coming_test age b L e))
      | inr e ↦ rw e (omega (arith, admitted_curve b curve room cv rm.under L))
    ]

-- A tick in which the part was not ready: nothing of it is carried on.
carried_test : (proc p b a : ℕ) → (eqb proc p && ltb b a) ≡ true → (proc ≡ p) × (b < a)
carried_test proc p b a e = grind (arith, nat_tests)

carried_over : (segs : List Segment) → Linked segs → (p b c : ℕ) → Meets segs p b c → (age left : ℕ) (g : Segment) (gs : List Segment) → Shaped segs age left g gs → carried p b (hand_over (age + 1) gs) ≡ 0
carried_over segs lk p b c mt age left g [] sh = refl
carried_over segs lk p b c mt age left g (h ∷ gs) sh =
    let n : (age + 1 ≤ h.begin) × (h ∈ segs) = next_later segs lk age left g h gs sh in
    elim (cases_Bool (eqb h.proc p && ltb b (age + 1))) [
      | inl t ↦
          let u : (h.proc ≡ p) × (b < age + 1) = carried_test h.proc p b (age + 1) t in
          let m : (h.begin ≡ b) × (h.cost ≡ c) = mt h n.1 u.0 in
          absurd (omega arith)
      | inr t ↦ rw t
    ]

carried_idle : (segs : List Segment) → Linked segs → (p b c : ℕ) → Meets segs p b c → (r : Bool) (j : Job) → Shape segs j → ready_on p j ≡ false → carried p b (aged r j) ≡ 0
carried_idle segs lk p b c mt r closed sh rd = refl
carried_idle segs lk p b c mt r (open_at age left g gs) sh rd =
    aged_either r age left g gs (λ j. carried p b j ≡ 0)
    (λ w. carried_over segs lk p b c mt age left g gs sh)
    (λ n d. elim (cases_Bool (eqb g.proc p && ltb b (age + 1))) [
      | inl t ↦
          let u : (g.proc ≡ p) × (b < age + 1) = carried_test g.proc p b (age + 1) t in
          let m : (g.begin ≡ b) × (g.cost ≡ c) = mt g (shaped_in segs age left g gs sh) u.0 in
          absurd (to_T false (sym rd ∙ ready_from p age left g gs u.0 (omega arith) sh.some))
      | inr t ↦ rw t
    ])

pub pending_idle : (segs : List Segment) → Linked segs → (p b c : ℕ) → Meets segs p b c → (curve room : ℕ → ℕ) → Curve curve → (r : Bool) (j : Job) → Shape segs j → Roomy curve room j →
    ready_on p j ≡ false → (L : ℕ) → pending p b c (later curve room) (aged r j) L ≤ curve L * c
pending_idle segs lk p b c mt curve room cv r j sh rm rd L =
    let m : (waiting b (aged r j) L + admitted b (later curve room) L) * c ≤ curve L * c =
    mul-le-mul_right c (coming_curve b curve (later curve room) cv (aged r j) (roomy_aged curve room cv r j rm) L) in
    omega (arith, carried_idle segs lk p b c mt r j sh rd)

-- A taken release does not raise the bound, and neither does a finish.
carried_new : (proc p b c : ℕ) → cond (eqb proc p && ltb b 0) c 0 ≡ 0
carried_new proc p b c = grind (arith, nat_tests)

admitted_less : (b : ℕ) (room : ℕ → ℕ) (L : ℕ) → 0 + admitted b (λ l. room l - 1) L ≤ 0 + admitted b room L
admitted_less b room L =
    elim (cases_lt b L) [ inl l ↦ rw (lt-ltb b L l) (omega arith) | inr l ↦ rw (le-ltb b L l) (omega arith) ]

admitted_opened : (b : ℕ) (room : ℕ → ℕ) → ((m n : ℕ) → 1 ≤ m → m ≤ n → room m ≤ room n) → 1 ≤ room 1 → (L : ℕ) →
    one_if (leb 0 b && ltb b (L + 0)) + admitted b (λ l. room l - 1) L ≤ 0 + admitted b room L
admitted_opened b room mono h L = rw (add-zero L) (
    elim (cases_lt b L) [
      | inl l ↦ rw (lt-ltb b L l, le-leb 0 b (omega arith)) (omega (arith, mono 1 (L - b) (omega arith) (omega arith)))
      | inr l ↦ rw (le-ltb b L l, le-leb 0 b (omega arith)) (omega arith)
    ])

pub pending_released : (segs : List Segment) (p b c : ℕ) (curve room : ℕ → ℕ) → Roomy curve room closed → 1 ≤ room 1 → (L : ℕ) →
    pending p b c (λ l. room l - 1) (hand_over 0 segs) L ≤ pending p b c room closed L
pending_released [] p b c curve room rm h L =
    let m : (0 + admitted b (λ l. room l - 1) L) * c ≤ (0 + admitted b room L) * c = mul-le-mul_right c (admitted_less b room L) in
    omega arith
pending_released (g ∷ gs) p b c curve room rm h L =
    let m : (one_if (leb 0 b && ltb b (L + 0)) + admitted b (λ l. room l - 1) L) * c ≤ (0 + admitted b room L) * c =
    mul-le-mul_right c (admitted_opened b room (steps_mono room 1 rm.steps) h L) in
    let k : cond (eqb g.proc p && ltb b 0) g.cost 0 ≡ 0 = carried_new g.proc p b g.cost in
    omega arith

pub pending_finished : (p b c : ℕ) (room : ℕ → ℕ) (j : Job) (L : ℕ) → pending p b c room closed L ≤ pending p b c room j L
pending_finished p b c room j L =
    let m : (0 + admitted b room L) * c ≤ (waiting b j L + admitted b room L) * c = mul-le-mul_right c (omega arith) in
    omega arith
