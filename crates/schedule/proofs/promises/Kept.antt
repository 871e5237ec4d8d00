-- The promise is kept: each of its clauses, from what one job's history and the moments of a history say.
use Rattle.std.proofs.Common.{◌≡◌, ℕ, zero, suc, ◌<◌, ◌≤◌, Bool, true, false, cond, ◌&&◌, eqb, ltb, leb, ◌⊎◌, List, [], ◌∷◌, ◌++◌, get_or, sym, refl, ap, ◌∙◌, subst, inl, inr, append_assoc, arith}
use mathlib.Core.List.{append_cancel_left}
use Rattle.std.proofs.lemmas.Bool.{cases_Bool, cases_eq, eq-eqb, ne_eqb, ltb-true, lt-ltb, leb-true, le-leb, and_parts, and_from, cond-false, cond_both}
use Rattle.schedule.specs.Lists.{◌∈◌, total, up_from, below, one_if}
use Rattle.schedule.specs.Layout.{Segment, segments, span_of, work_of, System, LaidOut}
use Rattle.schedule.specs.TickRule.{State, job, started, runs_on, answer, opened, released, Call, release, tick, Answer, taken, ran, refused}
use Rattle.schedule.specs.TickRule.{answers, leaves, after_call, Event, History, history}
use Rattle.schedule.specs.Promise.{ticks_in, releases, time, bytes, runs_at, runs, life, until, finished_in, Released, Late, Ran, Kept}
use Rattle.schedule.proofs.facts.Lists.{total_same, total_none, total_at, total_exchange, in_below, Each, each_rest, each_both, each_from}
use Rattle.schedule.proofs.facts.Running.{ready_here, ready_open, named_picked, answer_at}
use Rattle.schedule.proofs.facts.Calls.{job_released, tick_either}
use Rattle.schedule.proofs.facts.Segments.{segment_scaled, segments_chained, segment_within, Spread, segments_spread, same_cut, segment_costs}
use Rattle.schedule.proofs.facts.Jobs.{Shaped, Shape, on, owed, owed_hand_over, on_every, on_none, on_one, on_proc, on_apart, past_apart}
use Rattle.schedule.proofs.facts.Jobs.{on_segment}
use Rattle.schedule.proofs.promises.Follows.{Names, Follows}
use Rattle.schedule.proofs.promises.OneJob.{at_most, Within, within_hand_over, at_least, Moment, at_moment}
use Rattle.schedule.proofs.promises.Following.{SafeFacts, follows}
use Rattle.schedule.proofs.promises.Moments.{Reached, reach, free_unfinished, free_life, Aged, Since, since_call, since_start}

-- What has run on processor p, and in all.
abbrev ran_at : ℕ → ℕ → Event → ℕ
ran_at i p e = one_if (eqb (get_or (bytes e) p 255) i)

abbrev ran_all : ℕ → ℕ → Event → ℕ
ran_all m i e = total (λ p. ran_at i p e) (below m)

-- Added up by processors or by events, it is the same.
runs_by_events : (i : ℕ) (ps : List ℕ) (h : History) → total (λ p. runs_at i p h) ps ≡ total (λ e. total (λ p. ran_at i p e) ps) h
runs_by_events i ps h = total_exchange (λ p e. ran_at i p e) ps h

-- One processor at most is q, and one is where q is among them.
only_one : (q k n : ℕ) → (q < k → total (λ p. one_if (eqb q p)) (up_from k n) ≡ 0) × (total (λ p. one_if (eqb q p)) (up_from k n) ≤ 1)
only_one q k zero = ((λ l. refl), omega arith)
only_one q k (suc n) = elim (cases_eq q k) [
  | inl e ↦ ((λ l. absurd (omega arith)), omega (arith, ap one_if (eq-eqb q k e), (only_one q (suc k) n).0 (omega arith)))
  | inr d ↦ ((λ l. omega (arith, ap one_if (ne_eqb q k d), (only_one q (suc k) n).0 (omega arith))), omega (arith, ap one_if (ne_eqb q k d), (only_one q (suc k) n).1))
]

just_one : (q m : ℕ) → q < m → 1 ≤ total (λ p. one_if (eqb q p)) (below m)
just_one q m l = omega (arith, ap one_if (eq-eqb q q refl), total_at (λ p. one_if (eqb q p)) (below m) q (in_below q m l))

ran_none : (m i : ℕ) (e : Event) → Names i e false 0 → ran_all m i e ≡ 0
ran_none m i e n = total_none (λ p. ran_at i p e) (below m) (λ p k. n.at p)

ran_most : (m i : ℕ) (e : Event) (b : Bool) (g : Segment) → Names i e b g.proc → ran_all m i e ≤ cond b 1 0
ran_most m i e b g n = go b (total_same (λ p. ran_at i p e) (λ p. cond b (one_if (eqb g.proc p)) 0) (below m) (λ p k. n.at p))
  where
    go : (c : Bool) → ran_all m i e ≡ total (λ p. cond c (one_if (eqb g.proc p)) 0) (below m) → ran_all m i e ≤ cond c 1 0
    go true h = omega (arith, h, (only_one g.proc 0 m).1)
    go false h = omega (arith, h, total_none (λ (p : ℕ). 0) (below m) (λ p k. refl))

-- The segments on processor p that end by E.
abbrev by_then : ℕ → ℕ → Segment → Bool
by_then p E g = on_proc p g && leb g.end E

least_at : (i p E : ℕ) (e : Event) (b : Bool) (g : Segment) → Names i e b g.proc → cond b (one_if (by_then p E g)) 0 ≤ ran_at i p e
least_at i p E e b g n = omega (arith, n.at p, fewer b (on_proc p g) (leb g.end E))
  where
    fewer : (b x y : Bool) → cond b (one_if (x && y)) 0 ≤ cond b (one_if x) 0
    fewer false x y = omega arith
    fewer true false y = omega arith
    fewer true true false = omega arith
    fewer true true true = omega arith

least_all : (m i E : ℕ) (e : Event) (b : Bool) (g : Segment) → Names i e b g.proc → cond b (one_if (leb g.end E && ltb g.proc m)) 0 ≤ ran_all m i e
least_all m i E e b g n =
    go b (leb g.end E) (cases_Bool (ltb g.proc m)) (total_same (λ p. ran_at i p e) (λ p. cond b (one_if (eqb g.proc p)) 0) (below m) (λ p k. n.at p))
  where
    some : (x : Bool) → ltb g.proc m ≡ true → one_if (x && ltb g.proc m) ≤ total (λ p. one_if (eqb g.proc p)) (below m)
    some false y = omega arith
    some true y = omega (arith, ap one_if y, just_one g.proc m (ltb-true _ _ y))

    none : (x : Bool) → ltb g.proc m ≡ false → one_if (x && ltb g.proc m) ≡ 0
    none false y = refl
    none true y = ap one_if y

    go : (c x : Bool) → ((ltb g.proc m ≡ true) ⊎ (ltb g.proc m ≡ false)) →
        ran_all m i e ≡ total (λ p. cond c (one_if (eqb g.proc p)) 0) (below m) → cond c (one_if (x && ltb g.proc m)) 0 ≤ ran_all m i e
    go false x y h = omega arith
    go true x (inl y) h = omega (arith, h, some x y)
    go true x (inr y) h = omega (arith, none x y)

-- Up to a time, less has run than in all.
until_less : (cnt : Event → ℕ) (i d : ℕ) (h : History) → total cnt (life i (until d h)) ≤ total cnt (life i h)
until_less cnt i zero h = omega arith
until_less cnt i (suc d) [] = omega arith
until_less cnt i (suc d) (e ∷ es) =
    both (releases i e) (life i (cond (eqb (ticks_in e) 1) (until d es) (until (suc d) es)))
    (cond_both (eqb (ticks_in e) 1) (until d es) (until (suc d) es) (λ u. total cnt (life i u) ≤ total cnt (life i es))
    (λ t. until_less cnt i d es) (λ t. until_less cnt i (suc d) es))
  where
    both : (r : Bool) (xs : History) → total cnt xs ≤ total cnt (life i es) → total cnt (cond {A = History} r [] (e ∷ xs)) ≤ total cnt (cond {A = History} r [] (e ∷ life i es))
    both true xs h = omega arith
    both false xs h = omega arith

module _ (sys : System) (laid : LaidOut sys) (i : ℕ) where
  -- All that ends by the span, on the processors of the system, is the task's work.
  whole : owed (λ g. leb g.end (span_of sys.parts i) && ltb g.proc sys.procs) (opened sys i) ≡ work_of sys.parts i
  whole =
      let segs = segments sys.parts i in
      let E = span_of sys.parts i in
      let w : Segment → Bool = λ g. leb g.end E && ltb g.proc sys.procs in
      owed_hand_over w 0 segs
      ∙ (on_every w segs (each_both (λ g. g.end ≤ E) (λ g. g.proc < sys.procs) (λ g. w g ≡ true) (λ g h k. and_from _ _ (le-leb _ _ h) (lt-ltb _ _ k)) segs
      (each_from (λ g. g.end ≤ E) segs (segment_within sys laid i)) (each_from (λ g. g.proc < sys.procs) segs (λ g m. (segment_scaled sys laid i g m).2)))
      ∙ segment_costs sys.parts i)

  whole_work : owed (λ g. true) (opened sys i) ≡ work_of sys.parts i
  whole_work =
      let segs = segments sys.parts i in
      owed_hand_over (λ g. true) 0 segs
      ∙ (on_every (λ g. true) segs (each_from (λ g. ◌≡◌ {A = Bool} true true) segs (λ g m. refl))
      ∙ segment_costs sys.parts i)

-- What one job of task i keeps, from the history that follows its release.
module _ (sys : System) (laid : LaidOut sys) (i : ℕ) (i< : i < sys.tasks) (after : History) (story : Follows (segments sys.parts i) i (opened sys i) after) where
  within : (E : ℕ) → Within E E (opened sys i)
  within E = within_hand_over E E 0 (segments sys.parts i) (omega arith)

  not_late : (g : Segment) → g ∈ segments sys.parts i → Late i g after → ⊥
  not_late g m l =
      let E = g.end in
      let p = g.proc in
      let segs = segments sys.parts i in
      let a : g.cost ≤ on (by_then p E) segs =
      subst (λ gs. g.cost ≤ on (by_then p E) gs) (sym m.2) (on_one (by_then p E) m.0 m.1 g (and_from _ _ (eq-eqb p p refl) (le-leb E E (omega arith)))) in
      let b = at_least segs i (ran_at i p) (by_then p E) E (least_at i p E) (λ h w. leb-true _ _ (and_parts (eqb h.proc p) (leb h.end E) w).1) (span_of sys.parts i) (segments_chained sys laid i)
      story E (within E) l.reached l.unfinished in
      omega (arith, a, b, owed_hand_over (by_then p E) 0 segs, l.short)

  no_more : runs sys.procs i (life i after) ≤ sys.costs i
  no_more =
      let m = sys.procs in
      let a = at_most (segments sys.parts i) i (ran_all m i) (λ g. true) (ran_none m i) (ran_most m i) story in
      omega (arith, a, whole_work sys laid i, laid.summed i i<, runs_by_events i (below m) (life i after))

  no_part_more : (g : Segment) → g ∈ segments sys.parts i → runs_at i g.proc (life i after) ≤ g.cost
  no_part_more g m =
      let p = g.proc in
      let segs = segments sys.parts i in
      let a = at_most segs i (ran_at i p) (on_proc p) (λ e n. n.at p) (λ e b h n. omega (arith, n.at p)) story in
      omega (arith, a, on_segment sys laid i g m, owed_hand_over (on_proc p) 0 segs)

  exact : span_of sys.parts i ≤ time after → finished_in i (life i (until (span_of sys.parts i) after)) ≡ false → runs sys.procs i (life i after) ≡ sys.costs i
  exact t f =
      let m = sys.procs in
      let E = span_of sys.parts i in
      let w : Segment → Bool = λ g. leb g.end E && ltb g.proc m in
      let a = at_least (segments sys.parts i) i (ran_all m i) w E (least_all m i E) (λ h k. leb-true _ _ (and_parts (leb h.end E) (ltb h.proc m) k).0)
      E (segments_chained sys laid i) story E (within E) t f in
      omega (arith, a, whole sys laid i, laid.summed i i<, no_more, until_less (ran_all m i) i E after, runs_by_events i (below m) (life i after))

  -- When the job runs segment g, that is where it is; with what it has run by then on processor p.
  at_segment : (p : ℕ) (earlier : History) (front back : List Segment) (g : Segment) → Ran i g.proc earlier (life i after) →
      segments sys.parts i ≡ front ++ (g ∷ back) →
      (at : Moment (segments sys.parts i) g.proc (ran_at i p) (on_proc p) earlier (opened sys i)) × (◌≡◌ {A = List Segment} (at.now ∷ at.later) (g ∷ back))
  at_segment p earlier front back g r c =
      let at : Moment (segments sys.parts i) g.proc (ran_at i p) (on_proc p) earlier (opened sys i) =
      at_moment (segments sys.parts i) i g.proc (ran_at i p) (on_proc p) (λ e n. n.at p) (λ e b h n. n.at p) story earlier r.2 (tick r.0, ran r.1) r.3 (eq-eqb _ _ r.4) in
      (at, same_cut at.shaped.done front g at.now at.later back (subst Spread c (segments_spread sys laid i)) (sym at.shaped.place ∙ c) at.here)

  in_order : (earlier : History) (front back : List Segment) (f g : Segment) → Ran i g.proc earlier (life i after) →
      segments sys.parts i ≡ front ++ (g ∷ back) → f ∈ front → runs_at i f.proc earlier ≡ f.cost
  in_order earlier front back f g r c m =
      let p = f.proc in
      let segs = segments sys.parts i in
      let q : segs ≡ m.0 ++ (f ∷ (m.1 ++ (g ∷ back))) = c ∙ (ap (λ l. l ++ (g ∷ back)) m.2 ∙ append_assoc m.0 (f ∷ m.1) (g ∷ back)) in
      let distinct : Spread (m.0 ++ (f ∷ (m.1 ++ (g ∷ back)))) = subst Spread q (segments_spread sys laid i) in
      let here = at_segment p earlier front back g r c in
      let at = here.0 in
      let same = here.1 in
      let none : Each (λ h. on_proc p h ≡ false) (at.now ∷ at.later) =
      subst (Each (λ h. on_proc p h ≡ false)) (sym same)
      (each_rest (λ h. on_proc p h ≡ false) m.1 (g ∷ back) (past_apart m.0 (m.1 ++ (g ∷ back)) f distinct)) in
      let a : cond (on_proc p at.now) at.left 0 ≡ 0 = cond-false _ _ _ none.0 in
      let all : on (on_proc p) segs ≡ f.cost = ap (on (on_proc p)) q ∙ on_apart m.0 (m.1 ++ (g ∷ back)) f distinct in
      omega (arith, a, all, on_none (on_proc p) at.later none.1, at.spent, owed_hand_over (on_proc p) 0 segs)

  not_yet : (earlier : History) (front back : List Segment) (b g : Segment) → Ran i g.proc earlier (life i after) →
      segments sys.parts i ≡ front ++ (g ∷ back) → b ∈ back → runs_at i b.proc earlier ≡ 0
  not_yet earlier front back b g r c m =
      let p = b.proc in
      let segs = segments sys.parts i in
      let q : segs ≡ (front ++ (g ∷ m.0)) ++ (b ∷ m.1) = c ∙ (ap (λ l. front ++ (g ∷ l)) m.2 ∙ sym (append_assoc front (g ∷ m.0) (b ∷ m.1))) in
      let here = at_segment p earlier front back g r c in
      let at = here.0 in
      let same = here.1 in
      let after_it : at.later ≡ m.0 ++ (b ∷ m.1) = (let l : at.later ≡ back = cc same in l ∙ m.2) in
      let all : on (on_proc p) segs ≡ b.cost = ap (on (on_proc p)) q ∙ on_apart (front ++ (g ∷ m.0)) m.1 b (subst Spread q (segments_spread sys laid i)) in
      let rest : b.cost ≤ on (on_proc p) at.later =
      subst (λ gs. b.cost ≤ on (on_proc p) gs) (sym after_it) (on_one (on_proc p) m.0 m.1 b (eq-eqb p p refl)) in
      omega (arith, all, rest, at.spent, owed_hand_over (on_proc p) 0 segs)

-- The bytes of a tick that is taken.
ran_bytes : (sys : System) (s : State) (r : ℕ) (bs : List ℕ) → answers sys s (tick r) ≡ ran bs → bs ≡ answer sys s
ran_bytes sys s r bs = tick_either sys s r P (refusal 16 0) (refusal 17 sys.procs) (λ h. cc h)
  where
    P : Answer → Type 0
    P a = a ≡ ran bs → bs ≡ answer sys s

    refusal : (k at : ℕ) → refused k at ≡ ran bs → bs ≡ answer sys s
    refusal k at h = absurd (let z : ◌≡◌ {A = ℕ} 0 1 = cc h in omega arith)

module _ (sys : System) (laid : LaidOut sys) (Safe : State → Type 0) (facts : SafeFacts sys Safe) (cs : List Call) where
  -- At every moment, each open job has been open since its release.
  abbrev Opened : History → State → Type 0
  Opened pre s = (i : ℕ) → i < sys.tasks → Since i (job s i) pre

  at : (earlier rest : History) (e : Event) → history sys (started sys) cs ≡ earlier ++ (e ∷ rest) → Reached sys Safe Opened earlier rest e
  at earlier rest e h = reach sys Safe facts Opened (λ pre s safe c had i i<. since_call sys Safe facts pre s safe i i< (had i i<) c)
      cs (started sys) facts.safe_start [] (λ i i<. since_start sys i) earlier rest e h

  -- The history that follows a release follows the job that it opens.
  follows_release : (i : ℕ) (after : History) → i < sys.tasks → Released i (history sys (started sys) cs) after → Follows (segments sys.parts i) i (opened sys i) after
  follows_release i after i< r =
      let m = at r.0 after (release i, taken) r.1 in
      let s = m.state in
      let c : m.call ≡ release i = sym (ap (λ (e : Event). e.0) m.is) in
      let a : answers sys s (release i) ≡ taken = ap (answers sys s) (sym c) ∙ sym (ap (λ (e : Event). e.1) m.is) in
      let b : after_call sys s m.call ≡ released sys s i = ap (after_call sys s) c ∙ ap (leaves sys s (release i)) a in
      let j : job (after_call sys s m.call) i ≡ opened sys i = ap (λ z. job z i) b ∙ job_released sys s i (omega (arith, facts.size s m.safe)) in
      subst (λ x. Follows (segments sys.parts i) i x after) j
      (subst (Follows (segments sys.parts i) i (job (after_call sys s m.call) i)) (sym m.then)
      (follows sys laid Safe facts i i< m.calls (after_call sys s m.call) (facts.safe_call s m.safe m.call)))

  -- What runs on p in a tick of the history.
  ran_moment : (p i r : ℕ) (bs : List ℕ) (earlier rest : History) → (m : Reached sys Safe Opened earlier rest (tick r, ran bs)) → p < sys.procs → get_or bs p 255 ≡ i →
      runs_on sys m.state p ≡ i
  ran_moment p i r bs earlier rest m p< e =
      let s = m.state in
      let c : m.call ≡ tick r = sym (ap (λ (e : Event). e.0) m.is) in
      let a : answers sys s (tick r) ≡ ran bs = ap (answers sys s) (sym c) ∙ sym (ap (λ (e : Event). e.1) m.is) in
      sym (answer_at sys s p p<) ∙ (ap (λ l. get_or l p 255) (sym (ran_bytes sys s r bs a)) ∙ e)

  inside : (i p : ℕ) (earlier : History) → (i ≡ 255 → ⊥) → p < sys.procs → Ran i p earlier (history sys (started sys) cs) →
      (g : Segment) × (recent : History) × (i < sys.tasks) × (g ∈ segments sys.parts i) × (g.proc ≡ p) × Released i earlier recent
      × (life i recent ≡ recent) × (finished_in i (life i recent) ≡ false) × (g.begin ≤ time recent) × (time recent < g.end)
  inside i p earlier n p< r =
      let m = at earlier r.2 (tick r.0, ran r.1) r.3 in
      let k = named_picked sys laid m.state p i n (ran_moment p i r.0 r.1 earlier r.2 m p< r.4) in
      let y = ready_open p (job m.state i) k.ready in
      let sh : Shaped (segments sys.parts i) y.age y.left y.now y.later = subst (Shape (segments sys.parts i)) y.is (facts.shape m.state m.safe i k.task) in
      let since : Aged i y.age earlier = subst (λ j. Since i j earlier) y.is (m.holds i k.task) in (
        y.now,
        since.recent,
        k.task,
        (sh.done, y.later, sh.place),
        y.here,
        since.made,
        free_life i since.recent since.free,
        free_unfinished i since.recent since.free,
        omega (arith, since.ago, y.begun),
        omega (arith, since.ago, sh.early),
      )

  alone : (i p q : ℕ) (earlier : History) → i < sys.tasks → p < sys.procs → q < sys.procs →
      Ran i p earlier (history sys (started sys) cs) → Ran i q earlier (history sys (started sys) cs) → p ≡ q
  alone i p q earlier i< p< q< a b =
      let m = at earlier a.2 (tick a.0, ran a.1) a.3 in
      let n : i ≡ 255 → ⊥ = λ e. omega (arith, laid.few_tasks) in
      let e = append_cancel_left earlier ((tick a.0, ran a.1) ∷ a.2) ((tick b.0, ran b.1) ∷ b.2) (sym a.3 ∙ b.3) in
      let event : ◌≡◌ {A = Event} (tick a.0, ran a.1) (tick b.0, ran b.1) = cc e in
      let answered : ran a.1 ≡ ran b.1 = ap (λ (e : Event). e.1) event in
      let same : a.1 ≡ b.1 = cc answered in
      let k = named_picked sys laid m.state p i n (ran_moment p i a.0 a.1 earlier a.2 m p< a.4) in
      let l = named_picked sys laid m.state q i n (ran_moment q i a.0 a.1 earlier a.2 m q< (ap (λ bs. get_or bs q 255) same ∙ b.4)) in
      let y = ready_open p (job m.state i) k.ready in
      sym y.here ∙ (ready_here q y.age y.left y.now y.later (job m.state i) y.is l.ready).0

  pub kept : Kept sys (history sys (started sys) cs)
  kept = record {
    never_late = λ l. not_late sys laid l.0 l.3 l.2 (follows_release l.0 l.2 l.3 l.5) l.1 l.4 l.6;
    inside = inside;
    in_order = λ i after earlier front back f g i< r. in_order sys laid i i< after (follows_release i after i< r) earlier front back f g;
    not_yet = λ i after earlier front back b g i< r. not_yet sys laid i i< after (follows_release i after i< r) earlier front back b g;
    alone = alone;
    exact = λ i after i< r. exact sys laid i i< after (follows_release i after i< r);
    no_more = λ i after i< r. no_more sys laid i i< after (follows_release i after i< r);
    no_part_more = λ i g after i< m r. no_part_more sys laid i i< after (follows_release i after i< r) g m;
  }
