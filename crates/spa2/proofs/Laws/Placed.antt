-- What holds of the parts that are placed.
use Rattle.std.proofs.Common.{◌≡◌, ℕ, zero, suc, ◌+◌, ◌<◌, ◌≤◌, Bool, List, [], ◌∷◌, length, replicate, Some, Ok, sym, refl, ap, subst, inl, inr, arith}
use Rattle.std.proofs.lemmas.List.{length-replicate, get_or-replicate}
use Rattle.std.proofs.lemmas.Bool.{cases_lt}
use Rattle.schedule.specs.declared.Part.{Part}
use Rattle.schedule.specs.Layout.{work_of}
use Rattle.spa2.specs.declared.piece.Piece.{Piece}
use Rattle.spa2.specs.declared.state.Choice.{Choice}
use Rattle.spa2.specs.declared.state.Processor.{Processor}
use Rattle.spa2.specs.Laws.{is_beforehand, load_on}
use Rattle.spa2.specs.Placing.{Tasks, State, threshold, started, visited_from, parts_placed, opens, weight, chosen, with_pieces}
use Rattle.spa2.proofs.Filling.{turned, turned_lighter}
use Rattle.spa2.proofs.Keeping.{Ends, turns_keep, visits_keep}
use Rattle.spa2.proofs.Laws.Begun.{Begun, begun_visit}
use Rattle.spa2.proofs.Laws.Cuts.{Closing}
use Rattle.spa2.proofs.Laws.Each.{Each}
use Rattle.spa2.proofs.Laws.Fair.{Sane, KnownPart, Fair, chosen_fit, fair_turned}
use Rattle.spa2.proofs.Laws.Sums.{piece_work, share_elsewhere, within_most}
use Rattle.spa2.proofs.Scans.{idle}

opens_start : (m : ℕ) → opens (replicate m idle) ≡ m
opens_start zero = refl
opens_start (suc m) = omega (arith, opens_start m)

begun_start : (t : Tasks) (m : ℕ) → Begun t m 0 (started m)
begun_start t m =
    record {
      same = refl;
      seats = length-replicate m idle;
      visiting = record { listed = refl; seated = omega arith; each = refl };
      parts_known = tt;
      parts_early = tt;
      pieces_known = tt;
      pieces_early = tt;
      distinct = tt;
      seated = tt;
      closing = tt;
      works = λ j. ((λ l. absurd (omega arith)), (λ l. refl));
      unloaded = λ p. refl;
      low = λ k l. absurd (omega arith);
      vacant = λ k l b. ap (λ (x : Processor). x.standing) (get_or-replicate m k idle idle b);
      opened = omega (arith, opens_start m);
    }

begun_all : (t : Tasks) (m : ℕ) → Sane t → Begun t m (0 + t.count) (visited_from t (started m) 0 t.count)
begun_all t m sane =
    visits_keep t (λ i s. Begun t m i s) (λ i s l h. begun_visit t m i s sane l h) 0 t.count (started m) (omega arith) (begun_start t m)

-- A fair state with few enough parts.
abbrev Kept : Tasks → ℕ → State → Type 0
Kept t m s = Fair t (is_beforehand t m) m s × (length s.parts + weight s ≤ t.count + m)

kept_begun : (t : Tasks) (m : ℕ) (s : State) → Begun t m (0 + t.count) s → Kept t m s
kept_begun t m s h = (
  record {
    seats = h.seats;
    parts_known = h.parts_known;
    pieces_known = h.pieces_known;
    distinct = h.distinct;
    seated = h.seated;
    closing = h.closing;
    works = λ i l. (h.works i).0 (omega arith);
    loads = λ p l. (omega (arith, h.unloaded p), inl (h.unloaded p));
  },
  omega (arith, h.visiting.listed, h.visiting.each, h.opened),
)

kept_turned : (t : Tasks) (m : ℕ) → Sane t → (s : State) (x : Piece) (xs : List Piece) (c : Choice) → Kept t m s → s.pieces ≡ x ∷ xs → chosen (with_pieces s xs) ≡ Some c → Kept t m (turned t s x xs c)
kept_turned t m sane s x xs c h q r = (
  fair_turned t (is_beforehand t m) m sane s x xs c h.0 q r,
  omega (arith, (turned_lighter t s x xs c q r (chosen_fit (with_pieces s xs) c r h.0.seated).known).1, h.1),
)

-- The laws of the placed parts.
pub record PlacedWell (t : Tasks) (m : ℕ) (ps : List Part) : Type 0 where
  pub known : Each (KnownPart t m) ps
  pub processors : List Processor
  pub closing : Closing processors [] ps
  pub works : (i : ℕ) → i < t.count → work_of ps i ≡ t.cost i
  pub filled : (p : ℕ) → load_on t (is_beforehand t m) p ps ≤ threshold t
  pub few : length ps ≤ t.count + m

nowhere : (t : Tasks) (first : ℕ → Bool) (m p : ℕ) (ps : List Part) → m ≤ p → Each (KnownPart t m) ps → load_on t first p ps ≡ 0
nowhere t first m p [] l h = refl
nowhere t first m p (q ∷ ps) l h = omega (arith, share_elsewhere t first p q (λ e. omega (arith, h.0.1)), nowhere t first m p ps l h.1)

placed_state : (t : Tasks) (m : ℕ) (z : State) → Kept t m z → z.pieces ≡ [] → PlacedWell t m z.parts
placed_state t m z h e =
    record {
      known = h.0.parts_known;
      processors = z.processors;
      closing = subst (λ (ws : List Piece). Closing z.processors ws z.parts) e h.0.closing;
      works = λ i l. omega (arith, h.0.works i l, ap (λ (ws : List Piece). piece_work ws i) e);
      filled = λ p. elim (cases_lt p m) [
        | inl l ↦ within_most (threshold t) _ _ (h.0.loads p (omega (arith, l, h.0.seats)))
        | inr g ↦ omega (arith, nowhere t (is_beforehand t m) m p z.parts g h.0.parts_known)
      ];
      few = omega (arith, h.1);
    }

pub placed_well : (t : Tasks) (m : ℕ) (ps : List Part) → Sane t → parts_placed t m ≡ Ok ps → PlacedWell t m ps
placed_well t m ps sane e =
    let end : Ends (Kept t m) ps =
    turns_keep t (Kept t m) (λ s x xs c h q r. kept_turned t m sane s x xs c h q r) (t.count + m) (visited_from t (started m) 0 t.count) ps
    (kept_begun t m (visited_from t (started m) 0 t.count) (begun_all t m sane)) e in
    subst (λ (qs : List Part). PlacedWell t m qs) (sym end.3) (placed_state t m end.0 end.1 end.2)
