-- What follows for one job from the history that follows it: it runs no more than it owes, all that is due, and in order.
use Rattle.std.proofs.Common.{◌≡◌, ℕ, zero, suc, ◌+◌, ◌-◌, ◌<◌, ◌≤◌, Bool, true, false, cond, eqb, ◌⊎◌, List, [], ◌∷◌, ◌++◌, get_or, sym, refl, ap, ◌∙◌, subst, inl, inr, arith}
use Rattle.std.proofs.lemmas.Bool.{cases_eq, eq-eqb, ne_eqb, or_parts, both_ways}
use Rattle.schedule.specs.Lists.{total, one_if}
use Rattle.schedule.specs.Layout.{Segment}
use Rattle.schedule.specs.TickRule.{Job, closed, open_at, hand_over, aged, Event, History}
use Rattle.schedule.specs.Promise.{ticks_in, releases, finishes, time, bytes, life, until, finished_in}
use Rattle.schedule.proofs.facts.Lists.{nil_cons}
use Rattle.schedule.proofs.facts.Segments.{Chained, chained_at}
use Rattle.schedule.proofs.facts.Jobs.{aged_on_time, Shape, on, owed}
use Rattle.schedule.proofs.promises.Follows.{Names, Follows, over, starts, ends, stays, sleeps, ages, owed_aged}

pub life_cut : (i : ℕ) (e : Event) (es : History) → releases i e ≡ true → life i (e ∷ es) ≡ []
life_cut i e es r = simp r

pub life_more : (i : ℕ) (e : Event) (es : History) → releases i e ≡ false → life i (e ∷ es) ≡ e ∷ life i es
life_more i e es r = simp r

pub until_tick : (d : ℕ) (e : Event) (es : History) → ticks_in e ≡ 1 → until (suc d) (e ∷ es) ≡ e ∷ until d es
until_tick d e es t = simp (eq-eqb _ _ t)

pub until_still : (d : ℕ) (e : Event) (es : History) → ticks_in e ≡ 0 → until (suc d) (e ∷ es) ≡ e ∷ until (suc d) es
until_still d e es t = let n : ticks_in e ≡ 1 → ⊥ = omega arith in simp (ne_eqb _ _ n)

pub lives_tick : (i d : ℕ) (e : Event) (es : History) → releases i e ≡ false → ticks_in e ≡ 1 → life i (until (suc d) (e ∷ es)) ≡ e ∷ life i (until d es)
lives_tick i d e es r t = ap (life i) (until_tick d e es t) ∙ life_more i e (until d es) r

pub lives_still : (i d : ℕ) (e : Event) (es : History) → releases i e ≡ false → ticks_in e ≡ 0 → life i (until (suc d) (e ∷ es)) ≡ e ∷ life i (until (suc d) es)
lives_still i d e es r t = ap (life i) (until_still d e es t) ∙ life_more i e (until (suc d) es) r

unfinished_here : (i : ℕ) (e : Event) (es : History) → finished_in i (e ∷ es) ≡ false → (finishes i e ≡ false) × (finished_in i es ≡ false)
unfinished_here i e es u = or_parts (finishes i e) (finished_in i es) u

-- No job runs more than it owes.
module _ (segs : List Segment) (i : ℕ) (cnt : Event → ℕ) (w : Segment → Bool)
    (none : (e : Event) → Names i e false 0 → cnt e ≡ 0)
    (most : (e : Event) (b : Bool) (g : Segment) → Names i e b g.proc → cnt e ≤ cond b (one_if (w g)) 0) where
  pub at_most : {j : Job} {h : History} → Follows segs i j h → total cnt (life i h) ≤ owed w j
  at_most (over s) = omega arith
  at_most (starts {e = e} {es = es} r) = let a = ap (total cnt) (life_cut i e es r) in omega (arith, a)
  at_most (ends {e = e} {es = es} s r f t n k) = let a = ap (total cnt) (life_more i e es r) in omega (arith, a, none e n, at_most k)
  at_most (stays {e = e} {es = es} s r f t n k) = let a = ap (total cnt) (life_more i e es r) in omega (arith, a, none e n, at_most k)
  at_most (sleeps {e = e} {es = es} r f t n k) = let a = ap (total cnt) (life_more i e es r) in omega (arith, a, none e n, at_most k)
  at_most (ages {e = e} {es = es} b age left g gs s r f t n l k) = let a = ap (total cnt) (life_more i e es r) in
      omega (arith, a, most e b g n, at_most k, owed_aged w b age left g gs s.some l)

-- Of a job at which time stands at E or later, nothing that ends by E is left.
abbrev pub Within : ℕ → ℕ → Job → Type 0
Within E d closed = Unit
Within E d (open_at age left g gs) = E ≤ age + d

not_picked : (v : Bool) (n : ℕ) → (v ≡ true → ⊥) → cond v n 0 ≡ 0
not_picked true n h = absurd (h refl)
not_picked false n h = refl

none_due : (w : Segment → Bool) (E : ℕ) → ((g : Segment) → w g ≡ true → g.end ≤ E) → (e b : ℕ) (gs : List Segment) → Chained b gs e → E ≤ b → on w gs ≡ 0
none_due w E by e b [] c h = refl
none_due w E by e b (g ∷ gs) c h =
    let k : w g ≡ true → ⊥ = λ t. omega (arith, by g t, c.1) in
    omega (arith, not_picked (w g) g.cost k, none_due w E by e g.end gs c.3 (omega (arith, c.1)))

pub none_owed : (w : Segment → Bool) (E : ℕ) → ((g : Segment) → w g ≡ true → g.end ≤ E) → (segs : List Segment) (span : ℕ) → Chained 0 segs span →
    (j : Job) → Shape segs j → Within E 0 j → owed w j ≡ 0
none_owed w E by segs span c closed s h = refl
none_owed w E by segs span c (open_at age left g gs) s h =
    let k : w g ≡ true → ⊥ = λ t. omega (arith, by g t, s.early) in
    let r = chained_at s.done 0 span (g ∷ gs) (subst (λ l. Chained 0 l span) s.place c) in
    omega (arith, not_picked (w g) left k, none_due w E by span g.end gs r.2.3 (omega (arith, s.early)))

pub within_hand_over : (E d age : ℕ) (gs : List Segment) → E ≤ age + d → Within E d (hand_over age gs)
within_hand_over E d age [] h = tt
within_hand_over E d age (g ∷ gs) h = h

within_aged : (E d : ℕ) (b : Bool) (age left : ℕ) (g : Segment) (gs : List Segment) → ((left - one_if b ≡ 0 → ⊥) → age + 1 < g.end) →
    E ≤ age + suc d → Within E d (aged b (open_at age left g gs))
within_aged E d b age left g gs l h =
    aged_on_time b age left g gs (Within E d) l (λ z. within_hand_over E d (age + 1) gs (omega arith)) (λ n k. omega arith)

-- A job that is not finished early has run, when time stands at E, all that ends by E.
module _ (segs : List Segment) (i : ℕ) (cnt : Event → ℕ) (w : Segment → Bool) (E : ℕ)
    (least : (e : Event) (b : Bool) (g : Segment) → Names i e b g.proc → cond b (one_if (w g)) 0 ≤ cnt e)
    (by : (g : Segment) → w g ≡ true → g.end ≤ E) (span : ℕ) (chain : Chained 0 segs span) where
  pub at_least : {j : Job} {h : History} → Follows segs i j h → (d : ℕ) → Within E d j → d ≤ time h →
      finished_in i (life i (until d h)) ≡ false → owed w j ≤ total cnt (life i (until d h))
  at_least (over {j = j} s) zero z t u = omega (arith, none_owed w E by segs span chain j s z)
  at_least (over s) (suc d) z t u = omega arith
  at_least (starts r) zero z t u = omega arith
  at_least (starts r) (suc d) z t u = omega arith
  at_least (ends {j = j} s r f t n k) zero z q u = omega (arith, none_owed w E by segs span chain j s z)
  at_least (ends {e = e} {es = es} s r f t n k) (suc d) z q u =
      let u' = sym (ap (finished_in i) (lives_still i d e es r t)) ∙ u in
      absurd (both_ways (finishes i e) (unfinished_here i e (life i (until (suc d) es)) u').0 f)
  at_least (stays {j = j} s r f t n k) zero z q u = omega (arith, none_owed w E by segs span chain j s z)
  at_least (stays {e = e} {es = es} s r f t n k) (suc d) z q u =
      let u' = sym (ap (finished_in i) (lives_still i d e es r t)) ∙ u in
      let a = ap (total cnt) (lives_still i d e es r t) in
      let q' : suc d ≤ time es = omega arith in
      omega (arith, a, at_least k (suc d) z q' (unfinished_here i e (life i (until (suc d) es)) u').1)
  at_least (sleeps r f t n k) zero z q u = omega arith
  at_least (sleeps r f t n k) (suc d) z q u = omega arith
  at_least (ages b age left g gs s r f t n l k) zero z q u = omega (arith, none_owed w E by segs span chain (open_at age left g gs) s z)
  at_least (ages {e = e} {es = es} b age left g gs s r f t n l k) (suc d) z q u =
      let u' = sym (ap (finished_in i) (lives_tick i d e es r t)) ∙ u in
      let a = ap (total cnt) (lives_tick i d e es r t) in
      let q' : d ≤ time es = omega arith in
      omega (
        arith,
        a,
        least e b g n,
        owed_aged w b age left g gs s.some l,
        at_least k d (within_aged E d b age left g gs l z) q' (unfinished_here i e (life i (until d es)) u').1,
      )

-- The next event of a life, and what is left of it.
life_cons : (i : ℕ) (e x : Event) (es xs : History) → releases i e ≡ false → life i (e ∷ es) ≡ x ∷ xs → (e ≡ x) × (life i es ≡ xs)
life_cons i e x es xs r h = let a = sym (life_more i e es r) ∙ h in (cc a, cc a)

life_none : (i : ℕ) (e x : Event) (es xs : History) → releases i e ≡ true → life i (e ∷ es) ≡ x ∷ xs → ⊥
life_none i e x es xs r h = let a = sym (life_cut i e es r) ∙ h in let z : ◌≡◌ {A = ℕ} 0 1 = cc a in omega arith

unnamed : (i p q : ℕ) (e x : Event) → Names i e false q → e ≡ x → eqb (get_or (bytes x) p 255) i ≡ true → ⊥
unnamed i p q e x n h a = omega (arith, n.at p, ap (λ y. one_if (eqb (get_or (bytes y) p 255) i)) h, ap one_if a)

-- A closed job does not run.
pub asleep : {segs : List Segment} {i : ℕ} {h : History} → Follows segs i closed h → (p : ℕ) (earlier rest : History) (x : Event) →
    life i h ≡ earlier ++ (x ∷ rest) → eqb (get_or (bytes x) p 255) i ≡ true → ⊥
asleep (over s) p [] rest x h a = nil_cons x rest h
asleep (over s) p (y ∷ ys) rest x h a = nil_cons y (ys ++ (x ∷ rest)) h
asleep {i = i} (starts {e = e} {es = es} r) p [] rest x h a = life_none i e x es rest r h
asleep {i = i} (starts {e = e} {es = es} r) p (y ∷ ys) rest x h a = life_none i e y es (ys ++ (x ∷ rest)) r h
asleep {i = i} (ends {e = e} {es = es} s r f t n k) p [] rest x h a = unnamed i p 0 e x n (life_cons i e x es rest r h).0 a
asleep {i = i} (ends {e = e} {es = es} s r f t n k) p (y ∷ ys) rest x h a = asleep k p ys rest x (life_cons i e y es (ys ++ (x ∷ rest)) r h).1 a
asleep {i = i} (stays {e = e} {es = es} s r f t n k) p [] rest x h a = unnamed i p 0 e x n (life_cons i e x es rest r h).0 a
asleep {i = i} (stays {e = e} {es = es} s r f t n k) p (y ∷ ys) rest x h a = asleep k p ys rest x (life_cons i e y es (ys ++ (x ∷ rest)) r h).1 a
asleep {i = i} (sleeps {e = e} {es = es} r f t n k) p [] rest x h a = unnamed i p 0 e x n (life_cons i e x es rest r h).0 a
asleep {i = i} (sleeps {e = e} {es = es} r f t n k) p (y ∷ ys) rest x h a = asleep k p ys rest x (life_cons i e y es (ys ++ (x ∷ rest)) r h).1 a

-- The moment at which a job runs on processor p, with what it has run by then.
pub record Moment (segs : List Segment) (p : ℕ) (cnt : Event → ℕ) (w : Segment → Bool) (earlier : History) (j : Job) : Type 0 where
  pub age : ℕ
  pub left : ℕ
  pub now : Segment
  pub later : List Segment
  pub shaped : Shape segs (open_at age left now later)
  pub here : now.proc ≡ p
  pub spent : total cnt earlier + owed w (open_at age left now later) ≡ owed w j

names_here : (i p q : ℕ) (b : Bool) (e x : Event) → Names i e b q → e ≡ x → eqb (get_or (bytes x) p 255) i ≡ true → q ≡ p
names_here i p q b e x n h a = go b (cases_eq q p) (n.at p ∙ refl)
  where
    one : one_if (eqb (get_or (bytes e) p 255) i) ≡ 1
    one = ap (λ y. one_if (eqb (get_or (bytes y) p 255) i)) h ∙ ap one_if a

    go : (c : Bool) → ((q ≡ p) ⊎ (q ≡ p → ⊥)) → one_if (eqb (get_or (bytes e) p 255) i) ≡ cond c (one_if (eqb q p)) 0 → q ≡ p
    go c (inl y) k = y
    go true (inr y) k = absurd (omega (arith, one, k, ap one_if (ne_eqb q p y)))
    go false (inr y) k = absurd (omega (arith, one, k))

module _ (segs : List Segment) (i p : ℕ) (cnt : Event → ℕ) (w : Segment → Bool)
    (none : (e : Event) → Names i e false 0 → cnt e ≡ 0)
    (just : (e : Event) (b : Bool) (g : Segment) → Names i e b g.proc → cnt e ≡ cond b (one_if (w g)) 0) where
  step_moment : (e y : Event) (ys : History) (j j' : Job) → e ≡ y → owed w j ≡ cnt e + owed w j' → Moment segs p cnt w ys j' → Moment segs p cnt w (y ∷ ys) j
  step_moment e y ys j j' h o m = record {
    age = m.age;
    left = m.left;
    now = m.now;
    later = m.later;
    shaped = m.shaped;
    here = m.here;
    spent = omega (arith, ap cnt h, m.spent);
  }

  pub at_moment : {j : Job} {h : History} → Follows segs i j h → (earlier rest : History) (x : Event) →
      life i h ≡ earlier ++ (x ∷ rest) → eqb (get_or (bytes x) p 255) i ≡ true → Moment segs p cnt w earlier j
  at_moment (over s) [] rest x h a = absurd (nil_cons x rest h)
  at_moment (over s) (y ∷ ys) rest x h a = absurd (nil_cons y (ys ++ (x ∷ rest)) h)
  at_moment (starts {e = e} {es = es} r) [] rest x h a = absurd (life_none i e x es rest r h)
  at_moment (starts {e = e} {es = es} r) (y ∷ ys) rest x h a = absurd (life_none i e y es (ys ++ (x ∷ rest)) r h)
  at_moment (ends {e = e} {es = es} s r f t n k) [] rest x h a = absurd (unnamed i p 0 e x n (life_cons i e x es rest r h).0 a)
  at_moment (ends {e = e} {es = es} s r f t n k) (y ∷ ys) rest x h a = absurd (asleep k p ys rest x (life_cons i e y es (ys ++ (x ∷ rest)) r h).1 a)
  at_moment (stays {e = e} {es = es} s r f t n k) [] rest x h a = absurd (unnamed i p 0 e x n (life_cons i e x es rest r h).0 a)
  at_moment (stays {j = j} {e = e} {es = es} s r f t n k) (y ∷ ys) rest x h a =
      let c = life_cons i e y es (ys ++ (x ∷ rest)) r h in
      step_moment e y ys j j c.0 (omega (arith, none e n)) (at_moment k ys rest x c.1 a)
  at_moment (sleeps {e = e} {es = es} r f t n k) [] rest x h a = absurd (unnamed i p 0 e x n (life_cons i e x es rest r h).0 a)
  at_moment (sleeps {e = e} {es = es} r f t n k) (y ∷ ys) rest x h a = absurd (asleep k p ys rest x (life_cons i e y es (ys ++ (x ∷ rest)) r h).1 a)
  at_moment (ages {e = e} {es = es} b age left g gs s r f t n l k) [] rest x h a = record {
    age = age;
    left = left;
    now = g;
    later = gs;
    shaped = s;
    here = names_here i p g.proc b e x n (life_cons i e x es rest r h).0 a;
    spent = omega arith;
  }
  at_moment (ages {e = e} {es = es} b age left g gs s r f t n l k) (y ∷ ys) rest x h a =
      let c = life_cons i e y es (ys ++ (x ∷ rest)) r h in
      step_moment e y ys (open_at age left g gs) (aged b (open_at age left g gs)) c.0
      (omega (arith, just e b g n, owed_aged w b age left g gs s.some l)) (at_moment k ys rest x c.1 a)
