-- What every visit keeps, and that all visits leave a fair state.
use Rattle.std.proofs.Common.{◌≡◌, ℕ, zero, suc, ◌+◌, ◌-◌, ◌*◌, ◌<◌, ◌≤◌, Bool, true, false, cond, ◌&&◌, eqb, leb, List, [], ◌∷◌, ◌++◌, length, get_or, sym, refl, ap, ◌∙◌, subst, inl, inr, arith, length-set}
use Rattle.std.proofs.lemmas.Bool.{and_parts, leb-true, or_cases, or_from, eq-eqb, ne_eqb, eqb-true, both_ways, cases_eq}
use Rattle.schedule.specs.Layout.{work_of}
use Rattle.spa2.specs.declared.piece.Piece.{Piece}
use Rattle.spa2.specs.declared.state.Processor.{Processor}
use Rattle.spa2.specs.declared.state.Standing.{Standing}
use Rattle.spa2.specs.declared.state.Standing.TheVariants.{Open, Reserved}
use Rattle.spa2.specs.Laws.{is_beforehand, load_share, load_on}
use Rattle.spa2.specs.Loads.{heavy}
use Rattle.spa2.specs.Placing.{Tasks, State, load_at, followers, threshold, started, placed, free, goes_beforehand, beforehand, pieced, visited, visited_from, opens, Visiting}
use Rattle.spa2.proofs.Laws.Cuts.{Closing, closing_push, closing_pieces}
use Rattle.spa2.proofs.Laws.Each.{Each, each_push, each_map, has_piece, total_push}
use Rattle.spa2.proofs.Laws.Fair.{Sane, KnownPart, KnownPiece, Distinct}
use Rattle.spa2.proofs.Laws.Seats.{standing_at, standing_same, standing_other, Seated, seated_other, above_absent, open_full}
use Rattle.spa2.proofs.Laws.Sums.{piece_work, work_push, share_first}
use Rattle.spa2.proofs.Scans.{idle}
use Rattle.spa2.proofs.Visits.{visited_visiting}
use Rattle.spa2.proofs.Weights.{counts, opens_set}

-- One visit more, at the end.
pub visits_last : (t : Tasks) (n a : ℕ) (s : State) → visited_from t s a (suc n) ≡ visited t (visited_from t s a n) (a + n)
visits_last t zero a s = let e : a ≡ a + 0 = omega arith in ap (λ (i : ℕ). visited t s i) e
visits_last t (suc n) a s =
    let e : (a + 1) + n ≡ a + suc n = omega arith in
    visits_last t n (a + 1) (visited t s a) ∙ ap (λ (i : ℕ). visited t (visited_from t (visited t s a) (a + 1) n) i) e

pub record Begun (t : Tasks) (m i : ℕ) (s : State) : Type 0 where
  pub same : s ≡ visited_from t (started m) 0 i
  pub seats : length s.processors ≡ m
  pub visiting : Visiting s i
  pub parts_known : Each (KnownPart t m) s.parts
  pub parts_early : Each (λ q. q.task < i) s.parts
  pub pieces_known : Each (KnownPiece t) s.pieces
  pub pieces_early : Each (λ x. x.task < i) s.pieces
  pub distinct : Distinct s.pieces
  pub seated : Seated s.processors s.reserve
  pub closing : Closing s.processors s.pieces s.parts
  pub works : (j : ℕ) → (j < i → work_of s.parts j + piece_work s.pieces j ≡ t.cost j) × (i ≤ j → work_of s.parts j + piece_work s.pieces j ≡ 0)
  pub unloaded : (p : ℕ) → load_on t (is_beforehand t m) p s.parts ≡ 0
  pub low : (k : ℕ) → k < length s.reserve → get_or s.reserve k 0 < length s.reserve
  pub vacant : (k : ℕ) → length s.reserve ≤ k → k < m → standing_at s.processors k ≡ Open
  pub opened : opens s.processors + length s.reserve ≡ m

early_none : (i : ℕ) (ws : List Piece) → Each (λ x. x.task < i) ws → has_piece i ws ≡ false
early_none i [] h = refl
early_none i (x ∷ ws) h = or_from (eqb x.task i) (has_piece i ws) (ne_eqb x.task i (λ e. omega (arith, h.0))) (early_none i ws h.1)

share_same : (i c : ℕ) → cond (eqb i i) c 0 ≡ c
share_same i c = ap (λ (b : Bool). cond b c 0) (eq-eqb i i refl)

share_other : (i j c : ℕ) → (i ≡ j → ⊥) → cond (eqb i j) c 0 ≡ 0
share_other i j c h = ap (λ (b : Bool). cond b c 0) (ne_eqb i j h)

-- The costs once task i is there too, as a part or as a piece: w was there before, v is there now.
works_more : (t : Tasks) (i j w v : ℕ) → (j < i → w ≡ t.cost j) × (i ≤ j → w ≡ 0) → v ≡ w + cond (eqb i j) (t.cost i) 0 →
    (j < i + 1 → v ≡ t.cost j) × (i + 1 ≤ j → v ≡ 0)
works_more t i j w v h e = (
  (λ l. elim (cases_eq i j) [
    | inl q ↦
        let own : cond (eqb i j) (t.cost i) 0 ≡ t.cost j = subst (λ (k : ℕ). cond (eqb i k) (t.cost i) 0 ≡ t.cost k) q (share_same i (t.cost i)) in
        omega (arith, e, own, h.1 (omega arith))
    | inr o ↦ omega (arith, e, share_other i j (t.cost i) o, h.0 (omega arith))
  ]),
  (λ l. omega (arith, e, share_other i j (t.cost i) (λ q. omega arith), h.1 (omega arith))),
)

module _ (t : Tasks) (m i : ℕ) (s : State) (sane : Sane t) (inside : i < t.count) (h : Begun t m i s) where
  same_next : visited t s i ≡ visited_from t (started m) 0 (i + 1)
  same_next =
      let e : suc i ≡ i + 1 = omega arith in
      let z : 0 + i ≡ i = omega arith in
      ap (λ (a : State). visited t a i) h.same
      ∙ (sym (visits_last t i 0 (started m) ∙ ap (λ (k : ℕ). visited t (visited_from t (started m) 0 i) k) z) ∙ ap (λ (k : ℕ). visited_from t (started m) 0 k) e)

  k : ℕ
  k = length s.reserve

  early_parts : Each (λ q. q.task < i + 1) s.parts
  early_parts = each_map (λ q. q.task < i) (λ q. q.task < i + 1) (λ q l. omega arith) s.parts h.parts_early

  early_pieces : Each (λ x. x.task < i + 1) s.pieces
  early_pieces = each_map (λ x. x.task < i) (λ x. x.task < i + 1) (λ x l. omega arith) s.pieces h.pieces_early

  none_yet : has_piece i s.pieces ≡ false
  none_yet = early_none i s.pieces h.pieces_early

  begun_piece : visited t s i ≡ pieced t s i → Begun t m (i + 1) (pieced t s i)
  begun_piece e =
      let w : Piece = record { task = i; cost = t.cost i } in
      record {
        same = sym e ∙ same_next;
        seats = h.seats;
        visiting = subst (λ (z : State). Visiting z (i + 1)) e (visited_visiting t s i h.visiting);
        parts_known = h.parts_known;
        parts_early = early_parts;
        pieces_known = ((inside, sane.cost_some i inside, sane.cost_most i inside), h.pieces_known);
        pieces_early = (omega arith, early_pieces);
        distinct = (none_yet, h.distinct);
        seated = h.seated;
        closing = closing_pieces s.processors s.pieces (w ∷ s.pieces) s.parts
            (each_map (λ q. q.task < i) (λ q. has_piece q.task (w ∷ s.pieces) ≡ true → has_piece q.task s.pieces ≡ true)
            (λ q l b. elim (or_cases (eqb i q.task) (has_piece q.task s.pieces) b) [
              | inl d ↦ absurd (let same : i ≡ q.task = eqb-true i q.task d in omega arith)
              | inr d ↦ d
            ]) s.parts h.parts_early)
            h.closing;
        works = λ j. works_more t i j (work_of s.parts j + piece_work s.pieces j) (work_of s.parts j + (cond (eqb i j) (t.cost i) 0 + piece_work s.pieces j)) (h.works j) (omega arith);
        unloaded = h.unloaded;
        low = h.low;
        vacant = h.vacant;
        opened = h.opened;
      }

  begun_first : goes_beforehand t s i ≡ true → visited t s i ≡ beforehand t s i → Begun t m (i + 1) (beforehand t s i)
  unfolding k
  begun_first goes e =
      let y : Processor = record { load = load_at t i; standing = Reserved } in
      let r = placed i k (t.cost i) in
      let some : 1 ≤ free s = leb-true 1 (free s) (and_parts (leb 1 (free s)) (leb (followers t i) ((free s - 1) * threshold t)) (and_parts (heavy (threshold t) (load_at t i)) (leb 1 (free s) && leb (followers t i) ((free s - 1) * threshold t)) goes).1).0 in
      let seat : k < length s.processors = omega arith in
      let open_here : standing_at s.processors k ≡ Open = h.vacant k (omega arith) (omega (arith, h.seats, seat)) in
      let absent = above_absent k s.reserve h.low in
      let chosen_first : is_beforehand t m i ≡ true = sym (ap (λ (z : State). goes_beforehand t z i) h.same) ∙ goes in
      record {
        same = sym e ∙ same_next;
        seats = length-set s.processors k y ∙ h.seats;
        visiting = subst (λ (z : State). Visiting z (i + 1)) e (visited_visiting t s i h.visiting);
        parts_known = each_push (KnownPart t m) s.parts r h.parts_known (inside, omega (arith, h.seats, seat), sane.cost_some i inside, sane.cost_most i inside);
        parts_early = each_push (λ q. q.task < i + 1) s.parts r early_parts (omega arith);
        pieces_known = h.pieces_known;
        pieces_early = early_pieces;
        distinct = h.distinct;
        seated = (omega (arith, seat, length-set s.processors k y), standing_same s.processors k y seat, absent, seated_other s.processors k y s.reserve absent h.seated);
        closing = closing_push s.processors k y (λ f. open_full (sym open_here ∙ f)) s.pieces s.pieces s.parts r seat refl (λ j b. b)
            (each_map (λ q. q.task < i) (λ q. q.task ≡ i → has_piece q.task s.pieces ≡ true) (λ q l d. absurd (omega arith)) s.parts h.parts_early)
            (λ b. absurd (both_ways (has_piece i s.pieces) none_yet b))
            h.closing;
        works = λ j. works_more t i j (work_of s.parts j + piece_work s.pieces j) (work_of (s.parts ++ (r ∷ [])) j + piece_work s.pieces j) (h.works j) (omega (arith, work_push s.parts r j));
        unloaded = λ p. omega (arith, total_push (load_share t (is_beforehand t m) p) s.parts r, h.unloaded p, share_first t (is_beforehand t m) p r chosen_first);
        low = low_next;
        vacant = λ a l b. standing_other s.processors k a y (λ d. omega arith) ∙ h.vacant a (omega arith) b;
        opened =
            let was : counts (get_or s.processors k idle) ≡ 1 = ap (λ (x : Standing). counts (record { load = 0; standing = x })) open_here in
            omega (arith, opens_set s.processors k y seat, was, h.opened);
      }
    where
      low_next : (a : ℕ) → a < suc (length s.reserve) → get_or (length s.reserve ∷ s.reserve) a 0 < suc (length s.reserve)
      low_next zero l = omega arith
      low_next (suc a) l = omega (arith, h.low a (omega arith))

  pub begun_visit : Begun t m (i + 1) (visited t s i)
  begun_visit = go (goes_beforehand t s i) refl
    where
      go : (b : Bool) → goes_beforehand t s i ≡ b → Begun t m (i + 1) (visited t s i)
      go true e =
          let is : visited t s i ≡ beforehand t s i = ap (λ (b : Bool). cond b (beforehand t s i) (pieced t s i)) e in
          subst (λ (z : State). Begun t m (i + 1) z) (sym is) (begun_first e is)
      go false e =
          let is : visited t s i ≡ pieced t s i = ap (λ (b : Bool). cond b (beforehand t s i) (pieced t s i)) e in
          subst (λ (z : State). Begun t m (i + 1) z) (sym is) (begun_piece is)
