-- Every proposed plan is lawful.
use Rattle.std.proofs.Common.{◌≡◌, ℕ, ◌+◌, ◌<◌, ◌≤◌, Bool, true, false, cond, not, ◌&&◌, ◌||◌, eqb, ltb, leb, List, [], ◌∷◌, map, length, is_some, IfOk, Some, None, Ok, Err, Option, Result, sym, refl, ap, ◌∙◌, subst, inl, inr, arith}
use Rattle.std.proofs.lemmas.List.{length-map}
use Rattle.std.proofs.lemmas.Bool.{cases_eq, and_left, and_right, or_from, lt-leb, ne_eqb, eq-eqb, le-ltb}
use Rattle.std.proofs.lemmas.Bool.Decides.{nat_tests}
use Rattle.std.specs.Option.{option_or, option_map}
use Rattle.std.specs.Bool.{then_some}
use Rattle.schedule.specs.declared.Part.{Part}
use Rattle.schedule.specs.Layout.{span_of, work_of}
use Rattle.tasks.proofs.Searches.{first_none}
use Rattle.tasks.proofs.Sets.{period_scaled, cost_scaled}
use Rattle.tasks.specs.Numbers.{as_numbered}
use Rattle.tasks.specs.Searches.{first_where}
use Rattle.tasks.specs.Sets.{on_scale, count_of, cost_of, period_of}
use Rattle.tasks.specs.declared.order.TaskKey.{TaskKey}
use Rattle.tasks.specs.declared.set.TaskSet.{TaskSet}
use Rattle.plan.specs.Checks.{part_at, off_scale, stranger, same_place, twin, miscount, overlap, number_fault, earlier_fault}
use Rattle.parts.specs.Parts.{plan_of}
use Rattle.plan.specs.Systems.{system}
use Rattle.parts.specs.declared.lists.Proposal.{Proposal}
use Rattle.parts.specs.declared.fault.PlanFault.{PlanFault}
use Rattle.spa2.specs.Laws.{Lawful, is_beforehand, load_share, load_on}
use Rattle.spa2.specs.Placing.{tasks_of, threshold, parts_placed}
use Rattle.spa2.specs.Windows.{has_part, windowed}
use Rattle.spa2.specs.Plans.{answered}
use Rattle.spa2.proofs.Keeping.{ok_same}
use Rattle.spa2.proofs.Laws.Cuts.{Closing}
use Rattle.spa2.proofs.Laws.Each.{Each, each_at}
use Rattle.spa2.proofs.Laws.Fair.{Sane, KnownPart}
use Rattle.spa2.proofs.Laws.Placed.{PlacedWell, placed_well}
use Rattle.spa2.proofs.Laws.Plain.{bare, total_bare, each_bare, closing_bare, bare_closing, windowed_bare, closing_twins, closing_at}
use Rattle.spa2.proofs.Laws.Spans.{Fit, Spanned, windowed_well}

pub sane_set : (s : TaskSet) → Sane (tasks_of s)
sane_set s =
    record {
      period_some = λ i. (period_scaled s i).0;
      period_most = λ i. (period_scaled s i).1;
      cost_some = λ i l. (cost_scaled s i l).0;
      cost_most = λ i l. (cost_scaled s i l).1;
    }

or_clean : {A : Type 0} (a b : Option A) → a ≡ None → b ≡ None → option_or a b ≡ None
or_clean {A} a b ea eb = ap (λ (o : Option A). option_or o b) ea ∙ eb

search_clean : (f : ℕ → PlanFault) (test : ℕ → Bool) (n : ℕ) → ((k : ℕ) → k < n → test k ≡ false) → option_map f (first_where test n) ≡ None
search_clean f test n h = ap (λ (o : Option ℕ). option_map f o) (sym (first_none test n h))

when_clean : (b : Bool) (f : PlanFault) → b ≡ false → then_some b f ≡ None
when_clean b f e = ap (λ (v : Bool). then_some v f) e

on_both : (c w : ℕ) → 1 ≤ c → c ≤ 100000 → 1 ≤ w → w ≤ 100000 → (not (on_scale c) || not (on_scale w)) ≡ false
on_both c w a b d e = grind (arith, nat_tests)

between : (m low high : ℕ) → 1 ≤ m → m ≤ high → (eqb m 0 || ltb high m) ≡ false
between m low high a b = or_from (eqb m 0) (ltb high m) (ne_eqb m 0 (λ e. omega arith)) (le-ltb high m b)

apart_clean : (a b c d : ℕ) → (a ≡ b → c ≡ d → ⊥) → (eqb a b && eqb c d) ≡ false
apart_clean a b c d h =
    elim (cases_eq a b) [
      | inl e ↦ and_right (eqb a b) (eqb c d) (ne_eqb c d (λ f. h e f))
      | inr n ↦ and_left (eqb a b) (eqb c d) (ne_eqb a b n)
    ]

-- A task with work has a part.
work_somewhere : (i : ℕ) (ps : List Part) → 1 ≤ work_of ps i → has_part i ps ≡ true
work_somewhere i [] h = absurd (omega arith)
work_somewhere i (p ∷ ps) h =
    elim (cases_eq p.task i) [
      | inl e ↦ ap (λ (b : Bool). b || has_part i ps) (eq-eqb p.task i e)
      | inr n ↦
          let none : eqb p.task i ≡ false = ne_eqb p.task i n in
          let here : cond (eqb p.task i) p.cost 0 ≡ 0 = ap (λ (b : Bool). cond b p.cost 0) none in
          ap (λ (b : Bool). b || has_part i ps) none ∙ work_somewhere i ps (omega (arith, here))
    ]

-- Placed parts, with windows that fit and add up.
module _ (set : TaskSet) (m : ℕ) (before : TaskKey → TaskKey → Bool) (curve : ℕ → ℕ → ℕ) (ps qs : List Part)
    (low : 1 ≤ m) (high : m ≤ 8) (some : 1 ≤ length qs) (well : PlacedWell (tasks_of set) m ps) (same : map bare qs ≡ map bare ps)
    (fits : Each (Fit (tasks_of set)) qs) (spans : Spanned (tasks_of set) qs []) where
  known : Each (KnownPart (tasks_of set) m) qs
  known =
      each_bare (KnownPart (tasks_of set) m) (λ p h. h) qs
      (subst (λ (l : List Part). Each (KnownPart (tasks_of set) m) l) (sym same) (known_bare ps well.known))
    where
      known_bare : (rs : List Part) → Each (KnownPart (tasks_of set) m) rs → Each (KnownPart (tasks_of set) m) (map bare rs)
      known_bare [] h = tt
      known_bare (r ∷ rs) h = (h.0, known_bare rs h.1)

  many : length qs ≤ count_of set + m
  many = omega (arith, length-map qs bare, ap (λ (l : List Part). length l) same, length-map ps bare, well.few)

  worked : (i : ℕ) → i < count_of set → work_of qs i ≡ cost_of set i
  worked i l =
      let f : Part → ℕ = λ p. cond (eqb p.task i) p.cost 0 in
      total_bare f (λ p. refl) qs ∙ (ap (λ (rs : List Part). work_of rs i) same ∙ (sym (total_bare f (λ p. refl) ps) ∙ well.works i l))

  closes : Closing well.processors [] qs
  closes =
      closing_bare well.processors [] qs
      (subst (λ (l : List Part). Closing well.processors [] l) (sym same) (bare_closing well.processors [] ps well.closing))

  abbrev at : ℕ → Part
  at k = part_at qs k

  known_at : (k : ℕ) → k < length qs → KnownPart (tasks_of set) m (at k)
  known_at k l = each_at (KnownPart (tasks_of set) m) qs k (record { task = 0; processor = 0; cost = 0; window = 0 }) known l

  fits_at : (k : ℕ) → k < length qs → Fit (tasks_of set) (at k)
  fits_at k l = each_at (Fit (tasks_of set)) qs k (record { task = 0; processor = 0; cost = 0; window = 0 }) fits l

  scaled : (k : ℕ) → k < length qs → off_scale qs k ≡ false
  scaled k l =
      let known_here = known_at k l in
      let fits_here = fits_at k l in
      let short = (period_scaled set (at k).task).1 in
      on_both (at k).cost (at k).window known_here.2 (omega (arith, known_here.3, short)) fits_here.0 (omega (arith, fits_here.1, short))

  no_stranger : (k : ℕ) → k < length qs → stranger set m qs k ≡ false
  no_stranger k l =
      let known_here = known_at k l in
      or_from (leb (count_of set) (at k).task) (leb m (at k).processor) (lt-leb (count_of set) (at k).task known_here.0) (lt-leb m (at k).processor known_here.1)

  no_twin : (k : ℕ) → k < length qs → twin qs k ≡ false
  no_twin k l =
      ap (λ (o : Option ℕ). is_some o)
      (sym (first_none (λ j. same_place (at j) (at k)) k
      (λ j h. apart_clean (at j).task (at k).task (at j).processor (at k).processor (λ e f. closing_twins well.processors [] qs j k closes h l e f))))

  no_miscount : (i : ℕ) → i < count_of set → miscount set qs i ≡ false
  no_miscount i l = ap not (eq-eqb (work_of qs i) (cost_of set i) (worked i l))

  pub clean_numbers : number_fault set m qs ≡ None
  clean_numbers =
      or_clean _ _ (when_clean (eqb m 0 || ltb 8 m) _ (between m 0 8 low high))
      (or_clean _ _ (when_clean (eqb (length qs) 0 || ltb 64 (length qs)) _ (between (length qs) 0 64 some (omega (arith, many, set.few))))
      (or_clean _ _ (search_clean _ (off_scale qs) (length qs) scaled)
      (or_clean _ _ (search_clean _ (stranger set m qs) (length qs) no_stranger)
      (or_clean _ _ (search_clean _ (twin qs) (length qs) no_twin)
      (search_clean _ (miscount set qs) (count_of set) no_miscount)))))

  span_period : (i : ℕ) → i < count_of set → span_of qs i ≡ period_of set i
  span_period i l = spans i (work_somewhere i qs (omega (arith, worked i l, (cost_scaled set i l).0))) refl

  clean_earlier : ((i : ℕ) → i < count_of set → curve i (period_of set i) ≤ 1) → earlier_fault set m qs before curve ≡ None
  clean_earlier once =
      or_clean _ _ clean_numbers
      (search_clean _ (overlap (system set m qs before curve)) (count_of set)
      (λ i l.
      let low_number : as_numbered i ≡ i = omega (arith, set.few) in
      le-ltb 1 (curve (as_numbered i) (span_of qs i))
      (subst (λ (k : ℕ). curve k (span_of qs i) ≤ 1) (sym low_number) (subst (λ (L : ℕ). curve i L ≤ 1) (sym (span_period i l)) (once i l)))))

  lightly : (p : ℕ) → load_on (tasks_of set) (is_beforehand (tasks_of set) m) p qs ≤ threshold (tasks_of set)
  lightly p =
      let f = load_share (tasks_of set) (is_beforehand (tasks_of set) m) p in
      subst (λ (k : ℕ). k ≤ threshold (tasks_of set))
      (sym (total_bare f (λ q. refl) qs ∙ (ap (λ (rs : List Part). load_on (tasks_of set) (is_beforehand (tasks_of set) m) p rs) same ∙ sym (total_bare f (λ q. refl) ps))))
      (well.filled p)

  pub lawful_parts : Lawful set m before curve qs
  lawful_parts =
      record {
        numbers = clean_numbers;
        alone = clean_earlier;
        few = many;
        closing = λ xs p ys e h. closing_at well.processors [] xs p ys (subst (λ (l : List Part). Closing well.processors [] l) e closes) h;
        filled = lightly;
      }

-- The parts that are placed and have their windows are lawful.
pub lawful_plan : (set : TaskSet) (m : ℕ) (before : TaskKey → TaskKey → Bool) (curve : ℕ → ℕ → ℕ) (respond : Part → ℕ → Option ℕ) (ps qs : List Part) →
    ((p : Part) (L w : ℕ) → respond p L ≡ Some w → w ≤ L) → 1 ≤ m → m ≤ 8 → 1 ≤ length qs → parts_placed (tasks_of set) m ≡ Ok ps → windowed (tasks_of set) respond ps ≡ Ok qs →
    Lawful set m before curve qs
lawful_plan set m before curve respond ps qs most low high some placed given =
    let windows = windowed_well (tasks_of set) respond most ps [] qs tt (λ i a b. absurd (nothing_there a)) given in
    lawful_parts set m before curve ps qs low high some (placed_well (tasks_of set) m ps (sane_set set) placed) (windowed_bare (tasks_of set) respond ps [] qs given) windows.0 windows.1
  where
    nothing_there : false ≡ true → ⊥
    nothing_there e = let z : ◌≡◌ {A = ℕ} 0 1 = cc in omega arith

-- An answer with lawful parts is a lawful proposal.
pub made_lawful : (set : TaskSet) (m : ℕ) (before : TaskKey → TaskKey → Bool) (curve : ℕ → ℕ → ℕ) (qs : List Part) (r : Result Proposal PlanFault) →
    answered r ≡ Ok qs → Lawful set m before curve qs → IfOk r (λ p. Lawful set m before curve (plan_of p))
made_lawful set m before curve qs (Ok p) e h = subst (λ (rs : List Part). Lawful set m before curve rs) (sym (ok_same (plan_of p) qs e)) h
made_lawful set m before curve qs (Err f) e h = tt
