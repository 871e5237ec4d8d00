-- What every turn keeps.
use Rattle.std.proofs.Common.{◌≡◌, ℕ, ◌+◌, ◌-◌, ◌<◌, ◌≤◌, Bool, true, false, cond, eqb, leb, List, [], ◌∷◌, ◌++◌, length, set, Some, sym, refl, ◌∙◌, subst, arith, length-set}
use Rattle.std.proofs.lemmas.Bool.{cond_both, leb-true, leb-false, or_left, or_right, eq-eqb, both_ways}
use Rattle.schedule.specs.declared.Part.{Part}
use Rattle.schedule.specs.Layout.{work_of}
use Rattle.spa2.specs.declared.piece.Piece.{Piece}
use Rattle.spa2.specs.declared.state.Processor.{Processor}
use Rattle.spa2.specs.declared.state.Choice.{Choice}
use Rattle.spa2.specs.declared.state.Choice.TheVariants.{Normal, Spare}
use Rattle.spa2.specs.declared.state.Standing.{Standing}
use Rattle.spa2.specs.declared.state.Standing.TheVariants.{Open, Reserved, Full}
use Rattle.spa2.specs.Choices.{is_open}
use Rattle.spa2.specs.Loads.{load_of}
use Rattle.spa2.specs.Placing.{Tasks, State, threshold, placed, with_pieces, after_choice, reserve_after, returned, others, number_of, processor_at, cut_at, chosen, fits_whole, whole, split}
use Rattle.spa2.proofs.Filling.{turned}
use Rattle.spa2.proofs.Laws.Cuts.{Closing, closing_kept, closing_push}
use Rattle.spa2.proofs.Laws.Each.{Each, each_push, each_all, has_piece}
use Rattle.spa2.proofs.Laws.Seats.{standing_at, Seated, seated_other, seated_same, open_absent, open_full, reserved_full}
use Rattle.spa2.proofs.Laws.Sums.{piece_work, work_push, work_cut, split_share, Loaded, loaded_push, loaded_kept, load_none}
use Rattle.spa2.proofs.Rounding.{cut_fits, cut_leaves, load_some}
use Rattle.spa2.proofs.Weights.{grown, filled, chosen_normal, chosen_spare}

-- Periods are 1 to 100,000, and each task has a cost of 1 to its period.
pub record Sane (t : Tasks) : Type 0 where
  pub period_some : (i : ℕ) → 1 ≤ t.period i
  pub period_most : (i : ℕ) → t.period i ≤ 100000
  pub cost_some : (i : ℕ) → i < t.count → 1 ≤ t.cost i
  pub cost_most : (i : ℕ) → i < t.count → t.cost i ≤ t.period i

abbrev pub KnownPart : Tasks → ℕ → Part → Type 0
KnownPart t m q = (q.task < t.count) × (q.processor < m) × (1 ≤ q.cost) × (q.cost ≤ t.period q.task)

abbrev pub KnownPiece : Tasks → Piece → Type 0
KnownPiece t x = (x.task < t.count) × (1 ≤ x.cost) × (x.cost ≤ t.period x.task)

-- No two pieces are of one task.
abbrev pub Distinct : List Piece → Type 0
Distinct [] = Unit {0}
Distinct (x ∷ xs) = (has_piece x.task xs ≡ false) × Distinct xs

pub record Fair (t : Tasks) (first : ℕ → Bool) (m : ℕ) (s : State) : Type 0 where
  pub seats : length s.processors ≡ m
  pub parts_known : Each (KnownPart t m) s.parts
  pub pieces_known : Each (KnownPiece t) s.pieces
  pub distinct : Distinct s.pieces
  pub seated : Seated s.processors s.reserve
  pub closing : Closing s.processors s.pieces s.parts
  pub works : (i : ℕ) → i < t.count → work_of s.parts i + piece_work s.pieces i ≡ t.cost i
  pub loads : Loaded t first (threshold t) s.processors s.parts

-- A chosen processor is one of the state's, is not full, and leaves a reserve without it.
pub record Chosen (s : State) (c : Choice) : Type 0 where
  pub known : number_of c < length s.processors
  pub fit : standing_at s.processors (number_of c) ≡ Full → ⊥
  pub whole_seated : (y : Processor) → y.standing ≡ standing_at s.processors (number_of c) → Seated (set s.processors (number_of c) y) (returned c (reserve_after c s.reserve))
  pub split_seated : (y : Processor) → Seated (set s.processors (number_of c) y) (reserve_after c s.reserve)

is_open_open : (x : Standing) → is_open x ≡ true → x ≡ Open
is_open_open Open e = refl
is_open_open Reserved e = absurd (let z : ◌≡◌ {A = ℕ} 0 1 = cc in omega arith)
is_open_open Full e = absurd (let z : ◌≡◌ {A = ℕ} 0 1 = cc in omega arith)

pub chosen_fit : (s : State) (c : Choice) → chosen s ≡ Some c → Seated s.processors s.reserve → Chosen s c
chosen_fit s (Normal p) e h =
    let found = chosen_normal s p e in
    let vacant = is_open_open (processor_at s p).standing found.1 in
    record {
      known = found.0;
      fit = λ f. open_full (sym vacant ∙ f);
      whole_seated = λ y same. seated_same s.processors p y s.reserve found.0 same h;
      split_seated = λ y. seated_other s.processors p y s.reserve (open_absent s.processors p s.reserve vacant h) h;
    }
chosen_fit s (Spare p) e h =
    let front = chosen_spare s p e in
    let held = subst (λ (ps : List ℕ). Seated s.processors ps) front h in
    record {
      known = held.0;
      fit = λ f. reserved_full (sym held.1 ∙ f);
      whole_seated = λ y same. seated_same s.processors p y (p ∷ others s.reserve) held.0 same held;
      split_seated = λ y. seated_other s.processors p y (others s.reserve) held.2 held.3;
    }

module _ (t : Tasks) (first : ℕ → Bool) (m : ℕ) (sane : Sane t) (s : State) (x : Piece) (xs : List Piece) (c : Choice)
    (h : Fair t first m s) (front : s.pieces ≡ x ∷ xs) (some : chosen (with_pieces s xs) ≡ Some c) where
  abbrev n : ℕ
  n = number_of c

  abbrev s' : State
  s' = after_choice (with_pieces s xs) c

  fit : Chosen (with_pieces s xs) c
  fit = chosen_fit (with_pieces s xs) c some h.seated

  pieces : Each (KnownPiece t) (x ∷ xs)
  pieces = subst (λ (ws : List Piece). Each (KnownPiece t) ws) front h.pieces_known

  alone : Distinct (x ∷ xs)
  alone = subst (λ (ws : List Piece). Distinct ws) front h.distinct

  closes : Closing s.processors (x ∷ xs) s.parts
  closes = subst (λ (ws : List Piece). Closing s.processors ws s.parts) front h.closing

  work : (i : ℕ) → i < t.count → work_of s.parts i + (cond (eqb x.task i) x.cost 0 + piece_work xs i) ≡ t.cost i
  work i l = subst (λ (ws : List Piece). work_of s.parts i + piece_work ws i ≡ t.cost i) front (h.works i l)

  own : (q : Part) → q.task ≡ x.task → has_piece q.task (x ∷ xs) ≡ true
  own q e = or_left (eqb x.task q.task) (has_piece q.task xs) (eq-eqb x.task q.task (sym e))

  here : n < m
  here = omega (arith, fit.known, h.seats)

  seats_after : (y : Processor) → length (set s.processors n y) ≡ m
  seats_after y = length-set s.processors n y ∙ h.seats

  fair_whole : fits_whole t s' x n ≡ true → Fair t first m (whole t s' x c)
  fair_whole e =
      let y = grown t s' x n in
      let r = placed x.task n x.cost in
      record {
        seats = seats_after y;
        parts_known = each_push (KnownPart t m) s.parts r h.parts_known (pieces.0.0, here, pieces.0.1, pieces.0.2);
        pieces_known = pieces.1;
        distinct = alone.1;
        seated = fit.whole_seated y refl;
        closing = closing_push s.processors n y fit.fit (x ∷ xs) xs s.parts r fit.known refl
            (λ i b. or_right (eqb x.task i) (has_piece i xs) b)
            (each_all (λ q. q.task ≡ x.task → has_piece q.task (x ∷ xs) ≡ true) own s.parts)
            (λ b. absurd (both_ways (has_piece x.task xs) alone.0 b)) closes;
        works = λ i l. omega (arith, work_push s.parts r i, work i l);
        loads = λ p l. loaded_push t first (threshold t) s.processors n y s.parts r refl refl (leb-true _ (threshold t) e) h.loads p
            (omega (arith, l, length-set s.processors n y));
      }

  abbrev cut : ℕ
  cut = cut_at t s' x n

  abbrev y_full : Processor
  y_full = filled t s' x n

  abbrev rest : Piece
  rest = record { task = x.task; cost = x.cost - cut }

  abbrev AfterCut : List Part → Type 0
  AfterCut qs = Each (KnownPart t m) qs × Closing (set s.processors n y_full) (rest ∷ xs) qs × Loaded t first (threshold t) (set s.processors n y_full) qs

  cut_short : fits_whole t s' x n ≡ false → cut < x.cost
  cut_short e =
      let T = t.period x.task in
      let one = sane.period_some x.task in
      cut_leaves (threshold t) (processor_at s' n).load x.cost T one (leb-false _ (threshold t) e) (load_some x.cost T one pieces.0.1)

  listed_cut : cut < x.cost → leb 1 cut ≡ true → AfterCut (s.parts ++ (placed x.task n cut ∷ []))
  listed_cut short e =
      let T = t.period x.task in
      let one = sane.period_some x.task in
      let r = placed x.task n cut in
      let at_least : 1 ≤ cut = leb-true 1 cut e in
      let fits = cut_fits (threshold t) (processor_at s' n).load T one in
      let loaded = load_some cut T one at_least in (
        each_push (KnownPart t m) s.parts r h.parts_known (pieces.0.0, here, at_least, omega (arith, short, pieces.0.2)),
        closing_push s.processors n y_full fit.fit (x ∷ xs) (rest ∷ xs) s.parts r fit.known refl (λ i b. b)
            (each_all (λ q. q.task ≡ x.task → has_piece q.task (x ∷ xs) ≡ true) own s.parts) (λ b. refl) closes,
        λ p l. loaded_push t first (threshold t) s.processors n y_full s.parts r refl refl (omega (arith, fits, loaded)) h.loads p
            (omega (arith, l, length-set s.processors n y_full)),
      )

  no_cut : leb 1 cut ≡ false → AfterCut s.parts
  no_cut e =
      let T = t.period x.task in
      let none : load_of cut T ≡ 0 = load_none cut T (sane.period_some x.task) (omega (arith, leb-false 1 cut e)) in (
        h.parts_known,
        closing_kept s.processors n y_full fit.fit (x ∷ xs) (rest ∷ xs) s.parts (λ i b. b) closes,
        λ p l. loaded_kept t first (threshold t) s.processors n y_full s.parts (omega (arith, none)) h.loads p
            (omega (arith, l, length-set s.processors n y_full)),
      )

  fair_split : fits_whole t s' x n ≡ false → Fair t first m (split t s' x c)
  fair_split e =
      let short = cut_short e in
      let after = cond_both (leb 1 cut) (s.parts ++ (placed x.task n cut ∷ [])) s.parts AfterCut (λ b. listed_cut short b) (λ b. no_cut b) in
      record {
        seats = seats_after y_full;
        parts_known = after.0;
        pieces_known = ((pieces.0.0, omega (arith, short), omega (arith, pieces.0.2)), pieces.1);
        distinct = alone;
        seated = fit.split_seated y_full;
        closing = after.1;
        works = λ i l. omega (arith, work_cut x.task n cut s.parts i, work i l, split_share (eqb x.task i) x.cost cut (omega (arith, short)));
        loads = after.2;
      }

  pub fair_turned : Fair t first m (turned t s x xs c)
  fair_turned = cond_both (fits_whole t s' x n) (whole t s' x c) (split t s' x c) (λ z. Fair t first m z) (λ e. fair_whole e) (λ e. fair_split e)
