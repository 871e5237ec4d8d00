-- The segments of a task: each part of it is one, they follow each other in time, lie on different processors, and add up to its work.
use Rattle.std.proofs.Common.{◌≡◌, ℕ, ◌+◌, ◌*◌, ◌<◌, ◌≤◌, cond, eqb, List, [], ◌∷◌, ◌++◌, sym, refl, ap, ◌∙◌, subst, inl, inr, append_assoc, add-zero, add_assoc, zero-add, arith}
use Rattle.std.proofs.lemmas.Bool.{cases_Bool, cases_eq, eq-eqb, ne_eqb, cond-true}
use Rattle.std.proofs.lemmas.Bool.Decides.{nat_tests}
use Rattle.schedule.specs.declared.Part.{Part}
use Rattle.schedule.specs.Lists.{◌∈◌, total, below}
use Rattle.schedule.specs.Layout.{Segment, segments_from, segments, span_of, work_of, System, LaidOut}
use Rattle.schedule.proofs.facts.Lists.{cond_at_most, in_here, in_there, in_none, in_cases, total_le, total_at, total_bound, total_once}
use Rattle.schedule.proofs.facts.Lists.{total_exchange, in_below, below_length, Each, each_at, each_from}

-- Where task i's part on processor p begins: the windows of its parts before that one.
abbrev pub begin_on : List Part → ℕ → ℕ → ℕ
begin_on [] i p = 0
begin_on (x ∷ xs) i p =
    let rest = begin_on xs i p in
    cond (eqb x.task i) (cond (eqb x.processor p) 0 (x.window + rest)) rest

-- The segment of a part.
abbrev pub segment_of : List Part → Part → Segment
segment_of ps q = record {
  proc = q.processor;
  cost = q.cost;
  begin = begin_on ps q.task q.processor;
  end = begin_on ps q.task q.processor + q.window;
}

-- No task has two parts on one processor.
abbrev pub Apart : List Part → Type 0
Apart ps = (xs ys zs : List Part) (p q : Part) → ps ≡ xs ++ (p ∷ (ys ++ (q ∷ zs))) → p.task ≡ q.task → p.processor ≡ q.processor → ⊥

apart_tail : (x : Part) (xs : List Part) → Apart (x ∷ xs) → Apart xs
apart_tail x xs a = λ as' bs cs p q e. a (x ∷ as') bs cs p q (ap (λ l. x ∷ l) e)

apart_head : (x : Part) (xs : List Part) → Apart (x ∷ xs) → (q : Part) → q ∈ xs → x.task ≡ q.task → x.processor ≡ q.processor → ⊥
apart_head x xs a q m et ep = a [] m.0 m.1 x q (ap (λ l. x ∷ l) m.2) et ep

pub part_same : (ps : List Part) → Apart ps → (p q : Part) → p ∈ ps → q ∈ ps → p.task ≡ q.task → p.processor ≡ q.processor → p ≡ q
part_same [] a p q mp mq et ep = absurd (in_none p mp)
part_same (x ∷ xs) a p q mp mq et ep =
    elim (in_cases p x xs mp) [
      | inl e ↦ elim (in_cases q x xs mq) [
        | inl d ↦ e ∙ sym d
        | inr n ↦ absurd (apart_head x xs a q n (ap (λ z. z.task) (sym e) ∙ et) (ap (λ z. z.processor) (sym e) ∙ ep))
      ]
      | inr m ↦ elim (in_cases q x xs mq) [
        | inl d ↦ absurd (apart_head x xs a p m (ap (λ z. z.task) (sym d) ∙ sym et) (ap (λ z. z.processor) (sym d) ∙ sym ep))
        | inr n ↦ part_same xs (apart_tail x xs a) p q m n et ep
      ]
    ]

-- The segment of a part, where the segments begin at b.
abbrev placed : ℕ → List Part → Part → Segment
placed b ps q = record {
  proc = q.processor;
  cost = q.cost;
  begin = b + begin_on ps q.task q.processor;
  end = b + begin_on ps q.task q.processor + q.window;
}

part_placed : (ps : List Part) → Apart ps → (b : ℕ) (q : Part) → q ∈ ps → placed b ps q ∈ segments_from q.task b ps
part_placed [] a b q m = absurd (in_none q m)
part_placed (x ∷ xs) a b q m =
    elim (in_cases q x xs m) [
      | inl e ↦ subst (λ (z : Part). placed b (x ∷ xs) z ∈ segments_from z.task b (x ∷ xs)) (sym e) (rw (eq-eqb x.task x.task refl, eq-eqb x.processor x.processor refl, add-zero b)
          (in_here (record { proc = x.processor; cost = x.cost; begin = b; end = b + x.window }) (segments_from x.task (b + x.window) xs)))
      | inr n ↦ elim (cases_eq x.task q.task) [
        | inl e ↦ rw (eq-eqb x.task q.task e, ne_eqb x.processor q.processor (apart_head x xs a q n e), ← (add_assoc b x.window (begin_on xs q.task q.processor)))
            (in_there (placed (b + x.window) xs q) (record { proc = x.processor; cost = x.cost; begin = b; end = b + x.window }) (segments_from q.task (b + x.window) xs)
            (part_placed xs (apart_tail x xs a) (b + x.window) q n))
        | inr ne ↦ rw (ne_eqb x.task q.task ne) (part_placed xs (apart_tail x xs a) b q n)
      ]
    ]

placed_part : (ps : List Part) → Apart ps → (i b : ℕ) (g : Segment) → g ∈ segments_from i b ps → (q : Part) × (q ∈ ps) × (q.task ≡ i) × (g ≡ placed b ps q)
placed_part [] a i b g m = absurd (in_none g m)
placed_part (x ∷ xs) a i b g m =
    elim (cases_eq x.task i) [
      | inl e ↦
          let m' : g ∈ (record { proc = x.processor; cost = x.cost; begin = b; end = b + x.window } ∷ segments_from i (b + x.window) xs) = rw (eq-eqb x.task i e) at m in
          elim (in_cases g (record { proc = x.processor; cost = x.cost; begin = b; end = b + x.window }) (segments_from i (b + x.window) xs) m') [
            | inl d ↦ (x, in_here x xs, e, rw (eq-eqb x.task x.task refl, eq-eqb x.processor x.processor refl, add-zero b) d)
            | inr n ↦
                let r : (q : Part) × (q ∈ xs) × (q.task ≡ i) × (g ≡ placed (b + x.window) xs q) = placed_part xs (apart_tail x xs a) i (b + x.window) g n in
                let t : x.task ≡ r.0.task = e ∙ sym r.2 in (
                  r.0,
                  in_there r.0 x xs r.1,
                  r.2,
                  rw (eq-eqb x.task r.0.task t, ne_eqb x.processor r.0.processor (apart_head x xs a r.0 r.1 t), ← (add_assoc b x.window (begin_on xs r.0.task r.0.processor))) r.3,
                )
          ]
      | inr ne ↦
          let m' : g ∈ segments_from i b xs = rw (ne_eqb x.task i ne) at m in
          let r : (q : Part) × (q ∈ xs) × (q.task ≡ i) × (g ≡ placed b xs q) = placed_part xs (apart_tail x xs a) i b g m' in
          (r.0, in_there r.0 x xs r.1, r.2, rw (ne_eqb x.task r.0.task (λ t. ne (t ∙ r.2))) r.3)
    ]

-- A part is a segment of its task, and a segment is a part.
pub part_segment : (sys : System) → LaidOut sys → (q : Part) → q ∈ sys.parts → segment_of sys.parts q ∈ segments sys.parts q.task
part_segment sys lo q m = rw (zero-add (begin_on sys.parts q.task q.processor)) at (part_placed sys.parts lo.apart 0 q m)

pub segment_part : (sys : System) → LaidOut sys → (i : ℕ) (g : Segment) → g ∈ segments sys.parts i →
    (q : Part) × (q ∈ sys.parts) × (q.task ≡ i) × (g ≡ segment_of sys.parts q)
segment_part sys lo i g m =
    let r : (q : Part) × (q ∈ sys.parts) × (q.task ≡ i) × (g ≡ placed 0 sys.parts q) = placed_part sys.parts lo.apart i 0 g m in
    (r.0, r.1, r.2, rw (zero-add (begin_on sys.parts r.0.task r.0.processor)) at r.3)

-- Two segments of a task on one processor are one.
pub segment_same : (sys : System) → LaidOut sys → (i : ℕ) (g h : Segment) → g ∈ segments sys.parts i → h ∈ segments sys.parts i → g.proc ≡ h.proc → g ≡ h
segment_same sys lo i g h mg mh e =
    let a = segment_part sys lo i g mg in
    let b = segment_part sys lo i h mh in
    let k : a.0 ≡ b.0 = part_same sys.parts lo.apart a.0 b.0 a.1 b.1 (a.2 ∙ sym b.2) (ap (λ z. z.proc) (sym a.3) ∙ e ∙ ap (λ z. z.proc) b.3) in
    a.3 ∙ ap (segment_of sys.parts) k ∙ sym b.3

pub segment_scaled : (sys : System) → LaidOut sys → (i : ℕ) (g : Segment) → g ∈ segments sys.parts i → (1 ≤ g.cost) × (g.begin < g.end) × (g.proc < sys.procs)
segment_scaled sys lo i g m =
    let a = segment_part sys lo i g m in
    let c = lo.scaled a.0 a.1 in
    let k = lo.known a.0 a.1 in
    rw a.3 (c.0, (omega (arith, c.1)), k.1)

-- Segments one after the other, from b to e, each with a cost and a window.
abbrev pub Chained : ℕ → List Segment → ℕ → Type 0
Chained b [] e = b ≡ e
Chained b (g ∷ gs) e = (g.begin ≡ b) × (b < g.end) × (1 ≤ g.cost) × Chained g.end gs e

chained_from : (ps : List Part) → ((p : Part) → p ∈ ps → (1 ≤ p.cost) × (1 ≤ p.window) × (p.window ≤ 100000)) → (i b : ℕ) → Chained b (segments_from i b ps) (b + span_of ps i)
chained_from [] sc i b = omega arith
chained_from (x ∷ xs) sc i b =
    let more : (p : Part) → p ∈ xs → (1 ≤ p.cost) × (1 ≤ p.window) × (p.window ≤ 100000) = λ p m. sc p (in_there p x xs m) in
    let here = sc x (in_here x xs) in
    elim (cases_Bool (eqb x.task i)) [
      | inl e ↦ rw e (refl, omega arith, here.0, rw (← (add_assoc b x.window (span_of xs i))) (chained_from xs more i (b + x.window)))
      | inr e ↦ rw (e, zero-add (span_of xs i)) (chained_from xs more i b)
    ]

pub segments_chained : (sys : System) → LaidOut sys → (i : ℕ) → Chained 0 (segments sys.parts i) (span_of sys.parts i)
segments_chained sys lo i = rw (zero-add (span_of sys.parts i)) at (chained_from sys.parts lo.scaled i 0)

-- From one of them on, they are chained too.
pub chained_at : (done : List Segment) (b e : ℕ) (gs : List Segment) → Chained b (done ++ gs) e → (m : ℕ) × (b ≤ m) × Chained m gs e
chained_at [] b e gs c = (b, (omega arith), c)
chained_at (d ∷ ds) b e gs c =
    let r : (m : ℕ) × (d.end ≤ m) × Chained m gs e = chained_at ds d.end e gs c.3 in
    let k : b ≤ r.0 = omega (arith, c.1, r.1) in
    (r.0, k, r.2)

chained_le : (gs : List Segment) (b e : ℕ) → Chained b gs e → b ≤ e
chained_le [] b e c = omega arith
chained_le (g ∷ gs) b e c = omega (arith, c.1, chained_le gs g.end e c.3)

-- The first begins at 0; each begins where the one before it ends; none ends after the task's span.
pub segment_first : (sys : System) → LaidOut sys → (i : ℕ) (g : Segment) (gs : List Segment) → segments sys.parts i ≡ g ∷ gs → g.begin ≡ 0
segment_first sys lo i g gs e = (rw e at (segments_chained sys lo i)).0

pub segment_next : (sys : System) → LaidOut sys → (i : ℕ) (done gs : List Segment) (g h : Segment) → segments sys.parts i ≡ done ++ (g ∷ (h ∷ gs)) → g.end ≡ h.begin
segment_next sys lo i done gs g h e =
    let c : Chained 0 (done ++ (g ∷ (h ∷ gs))) (span_of sys.parts i) = rw e at (segments_chained sys lo i) in
    let r = chained_at done 0 (span_of sys.parts i) (g ∷ (h ∷ gs)) c in
    sym r.2.3.0

pub segment_last : (sys : System) → LaidOut sys → (i : ℕ) (done : List Segment) (g : Segment) → segments sys.parts i ≡ done ++ (g ∷ []) → g.end ≡ span_of sys.parts i
segment_last sys lo i done g e =
    let c : Chained 0 (done ++ (g ∷ [])) (span_of sys.parts i) = rw e at (segments_chained sys lo i) in
    let r = chained_at done 0 (span_of sys.parts i) (g ∷ []) c in
    r.2.3

pub segment_within : (sys : System) → LaidOut sys → (i : ℕ) (g : Segment) → g ∈ segments sys.parts i → g.end ≤ span_of sys.parts i
segment_within sys lo i g m =
    let c : Chained 0 (m.0 ++ (g ∷ m.1)) (span_of sys.parts i) = rw m.2 at (segments_chained sys lo i) in
    let r = chained_at m.0 0 (span_of sys.parts i) (g ∷ m.1) c in
    chained_le m.1 g.end (span_of sys.parts i) r.2.3

-- An earlier one ends where a later one begins, or before.
pub segment_order : (sys : System) → LaidOut sys → (i : ℕ) (xs ys zs : List Segment) (g h : Segment) →
    segments sys.parts i ≡ xs ++ (g ∷ (ys ++ (h ∷ zs))) → g.end ≤ h.begin
segment_order sys lo i xs ys zs g h e =
    let c : Chained 0 (xs ++ (g ∷ (ys ++ (h ∷ zs)))) (span_of sys.parts i) = rw e at (segments_chained sys lo i) in
    let r = chained_at xs 0 (span_of sys.parts i) (g ∷ (ys ++ (h ∷ zs))) c in
    let r' = chained_at ys g.end (span_of sys.parts i) (h ∷ zs) r.2.3 in
    omega (arith, r'.1, r'.2.0)

pub later_begins : (sys : System) → LaidOut sys → (i : ℕ) (done later : List Segment) (now g : Segment) →
    segments sys.parts i ≡ done ++ (now ∷ later) → g ∈ later → now.end ≤ g.begin
later_begins sys lo i done later now g e m = segment_order sys lo i done m.0 m.1 now g (e ∙ ap (λ l. done ++ (now ∷ l)) m.2)

pub later_in : (sys : System) (i : ℕ) (done later : List Segment) (now g : Segment) →
    segments sys.parts i ≡ done ++ (now ∷ later) → g ∈ later → g ∈ segments sys.parts i
later_in sys i done later now g e m =
    (done ++ (now ∷ m.0), m.1, e ∙ ap (λ l. done ++ (now ∷ l)) m.2 ∙ sym (append_assoc done (now ∷ m.0) (g ∷ m.1)))

-- Two segments of a task at different places are on different processors.
pub segment_apart : (sys : System) → LaidOut sys → (i : ℕ) (xs ys zs : List Segment) (g h : Segment) →
    segments sys.parts i ≡ xs ++ (g ∷ (ys ++ (h ∷ zs))) → g.proc ≡ h.proc → ⊥
segment_apart sys lo i xs ys zs g h e ep =
    let mg : g ∈ segments sys.parts i = (xs, ys ++ (h ∷ zs), e) in
    let mh : h ∈ segments sys.parts i = (xs ++ (g ∷ ys), zs, e ∙ sym (append_assoc xs (g ∷ ys) (h ∷ zs))) in
    let k : g ≡ h = segment_same sys lo i g h mg mh ep in
    let b : g.begin ≡ h.begin = ap (λ z. z.begin) k in
    omega (arith, segment_order sys lo i xs ys zs g h e, (segment_scaled sys lo i g mg).1)

-- Segments no two of which are on one processor.
abbrev pub Spread : List Segment → Type 0
Spread [] = Unit
Spread (g ∷ gs) = Each (λ h. h.proc ≡ g.proc → ⊥) gs × Spread gs

spread_from : (gs : List Segment) → ((xs ys zs : List Segment) (g h : Segment) → gs ≡ xs ++ (g ∷ (ys ++ (h ∷ zs))) → g.proc ≡ h.proc → ⊥) → Spread gs
spread_from [] a = tt
spread_from (x ∷ gs) a = (
  each_from (λ h. h.proc ≡ x.proc → ⊥) gs (λ h m e. a [] m.0 m.1 x h (ap {B = List Segment} (λ l. x ∷ l) m.2) (sym e)),
  spread_from gs (λ xs ys zs g h e. a (x ∷ xs) ys zs g h (ap {B = List Segment} (λ l. x ∷ l) e)),
)

pub segments_spread : (sys : System) → LaidOut sys → (i : ℕ) → Spread (segments sys.parts i)
segments_spread sys lo i = spread_from (segments sys.parts i) (segment_apart sys lo i)

-- Two cuts of spread segments, at segments on the same processor, are one cut.
pub same_cut : (done front : List Segment) (g g' : Segment) (gs back : List Segment) → Spread (front ++ (g ∷ back)) →
    done ++ (g' ∷ gs) ≡ front ++ (g ∷ back) → g'.proc ≡ g.proc → ◌≡◌ {A = List Segment} (g' ∷ gs) (g ∷ back)
same_cut [] [] g g' gs back a e s = e
same_cut [] (x ∷ front) g g' gs back a e s =
    let h : g' ≡ x = cc e in
    absurd (each_at (λ h. h.proc ≡ x.proc → ⊥) front back g a.0 (sym s ∙ ap (λ (k : Segment). k.proc) h))
same_cut (x ∷ done) [] g g' gs back a e s =
    let h : done ++ (g' ∷ gs) ≡ back = cc e in
    absurd (each_at (λ h. h.proc ≡ g.proc → ⊥) done gs g' (subst (Each (λ h. h.proc ≡ g.proc → ⊥)) (sym h) a.0) s)
same_cut (x ∷ done) (y ∷ front) g g' gs back a e s =
    let h : done ++ (g' ∷ gs) ≡ front ++ (g ∷ back) = cc e in
    same_cut done front g g' gs back a.1 h s

-- The costs of the segments are the work of the task.
costs_from : (ps : List Part) (i b : ℕ) → total (λ g. g.cost) (segments_from i b ps) ≡ work_of ps i
costs_from [] i b = refl
costs_from (x ∷ xs) i b =
    elim (cases_Bool (eqb x.task i)) [
      | inl e ↦ rw e (ap (λ n. x.cost + n) (costs_from xs i (b + x.window)))
      | inr e ↦ rw (e, zero-add (work_of xs i)) (costs_from xs i b)
    ]

pub segment_costs : (ps : List Part) (i : ℕ) → total (λ g. g.cost) (segments ps i) ≡ work_of ps i
segment_costs ps i = costs_from ps i 0

-- A task of the system has a first segment.
pub segment_some : (sys : System) → LaidOut sys → (i : ℕ) → i < sys.tasks → (g : Segment) × (gs : List Segment) × (segments sys.parts i ≡ g ∷ gs)
segment_some sys lo i h = go (segments sys.parts i) refl
  where
    go : (l : List Segment) → segments sys.parts i ≡ l → (g : Segment) × (gs : List Segment) × (segments sys.parts i ≡ g ∷ gs)
    go [] e = absurd (let z : 0 ≡ work_of sys.parts i = rw e at (segment_costs sys.parts i) in omega (arith, lo.working i h, lo.summed i h))
    go (g ∷ gs) e = (g, gs, e)

-- A task with at most one part on each of m processors has windows of at most m times the largest in all.
pub span_at_most : (ps : List Part) (m w i : ℕ) → ((p : Part) → p ∈ ps → p.processor < m) → ((p : Part) → p ∈ ps → p.window ≤ w) → Apart ps → span_of ps i ≤ m * w
span_at_most ps m w i known small apart =
    let own : Part → ℕ = λ x. cond (eqb x.task i) x.window 0 in
    let on : Part → ℕ → ℕ = λ x p. cond (eqb x.processor p) (own x) 0 in
    let spread : span_of ps i ≤ total (λ x. total (on x) (below m)) ps =
    total_le own (λ x. total (on x) (below m)) ps (λ x k.
    omega (arith, cond-true (eqb x.processor x.processor) (own x) 0 (eq-eqb x.processor x.processor refl), total_at (on x) (below m) x.processor (in_below x.processor m (known x k)))) in
    let one : (p : ℕ) → p ∈ below m → total (λ x. on x p) ps ≤ w = λ p n.
    total_once (λ x. on x p) w ps
    (λ x k. omega (arith, cond_at_most (eqb x.processor p) (own x), cond_at_most (eqb x.task i) x.window, small x k))
    (λ us bs cs x y e hx hy. apart us bs cs x y e (omega (arith, (counts x p hx).0, (counts y p hy).0)) (omega (arith, (counts x p hx).1, (counts y p hy).1))) in
    omega (arith, spread, total_exchange on ps (below m), total_bound (λ p. total (λ x. on x p) ps) w (below m) one, ap (λ n. n * w) (below_length m))
  where
    counts : (x : Part) (p : ℕ) → 0 < cond (eqb x.processor p) (cond (eqb x.task i) x.window 0) 0 → (x.task ≡ i) × (x.processor ≡ p)
    counts x p = grind (arith, nat_tests)
