-- What does not look at windows is the same before and after they are given.
use Rattle.std.proofs.Common.{◌≡◌, ℕ, zero, suc, ◌<◌, Bool, true, false, ◌||◌, eqb, List, [], ◌∷◌, ◌++◌, map, length, append-nil, append_assoc, Ok, Option, sym, refl, ap, ◌∙◌, arith}
use Rattle.std.proofs.lemmas.List.{map-append}
use Rattle.std.proofs.lemmas.Bool.{or_left, or_right, eq-eqb, both_ways}
use Rattle.schedule.specs.declared.Part.{Part}
use Rattle.schedule.specs.Lists.{total}
use Rattle.plan.specs.Checks.{part_at}
use Rattle.spa2.specs.declared.piece.Piece.{Piece}
use Rattle.spa2.specs.declared.state.Processor.{Processor}
use Rattle.spa2.specs.Laws.{has_on}
use Rattle.spa2.specs.Placing.{Tasks}
use Rattle.spa2.proofs.Windowing.{windowed_next}
use Rattle.spa2.specs.Windows.{has_part, with_own_window, windowed_from}
use Rattle.spa2.proofs.Keeping.{ok_same}
use Rattle.spa2.proofs.Laws.Cuts.{Closing, goes_on}
use Rattle.spa2.proofs.Laws.Each.{Each, has_piece}

-- A part without its window.
abbrev pub bare : Part → Part
bare p = with_own_window p 0

pub total_bare : (f : Part → ℕ) → ((p : Part) → f p ≡ f (bare p)) → (ps : List Part) → total f ps ≡ total f (map bare ps)
total_bare f e [] = refl
total_bare f e (p ∷ ps) = omega (arith, e p, total_bare f e ps)

pub has_part_bare : (i : ℕ) (ps : List Part) → has_part i ps ≡ has_part i (map bare ps)
has_part_bare i [] = refl
has_part_bare i (p ∷ ps) = ap (λ (b : Bool). eqb p.task i || b) (has_part_bare i ps)

has_on_bare : (k : ℕ) (ps : List Part) → has_on k ps ≡ has_on k (map bare ps)
has_on_bare k [] = refl
has_on_bare k (p ∷ ps) = ap (λ (b : Bool). eqb p.processor k || b) (has_on_bare k ps)

pub each_bare : (P : Part → Type 0) → ((p : Part) → P (bare p) → P p) → (ps : List Part) → Each P (map bare ps) → Each P ps
each_bare P f [] h = tt
each_bare P f (p ∷ ps) h = (f p h.0, each_bare P f ps h.1)

pub closing_bare : (xs : List Processor) (ws : List Piece) (ps : List Part) → Closing xs ws (map bare ps) → Closing xs ws ps
closing_bare xs ws [] h = tt
closing_bare xs ws (p ∷ ps) h = (
  (λ e.
      let old : goes_on ws (bare p) (map bare ps) ≡ true = sym (ap (λ (b : Bool). b || has_piece p.task ws) (has_part_bare p.task ps)) ∙ e in
      let held = h.0 old in
      (held.0, has_on_bare p.processor ps ∙ held.1)),
  closing_bare xs ws ps h.1,
)

-- Windows are all that is changed.
pub windowed_bare : (t : Tasks) (respond : Part → ℕ → Option ℕ) (rest done qs : List Part) → windowed_from t respond done rest ≡ Ok qs →
    map bare qs ≡ map bare done ++ map bare rest
windowed_bare t respond [] done qs e = sym (ap (λ (l : List Part). map bare l) (ok_same done qs e)) ∙ sym (append-nil (map bare done))
windowed_bare t respond (p ∷ rest) done qs e =
    let next = windowed_next t respond done p rest qs e in
    let q = with_own_window p next.0 in
    windowed_bare t respond rest (done ++ (q ∷ [])) qs next.2 ∙ (ap (λ (l : List Part). l ++ map bare rest) (map-append bare done (q ∷ [])) ∙ append_assoc (map bare done) (bare q ∷ []) (map bare rest))

-- A part of the list is found in it.
pub has_part_at : (ps : List Part) (k i : ℕ) → k < length ps → (part_at ps k).task ≡ i → has_part i ps ≡ true
has_part_at [] k i l e = absurd (omega arith)
has_part_at (p ∷ ps) zero i l e = or_left (eqb p.task i) (has_part i ps) (eq-eqb p.task i e)
has_part_at (p ∷ ps) (suc k) i l e = or_right (eqb p.task i) (has_part i ps) (has_part_at ps k i (omega arith) e)

has_on_at : (ps : List Part) (k p : ℕ) → k < length ps → (part_at ps k).processor ≡ p → has_on p ps ≡ true
has_on_at [] k p l e = absurd (omega arith)
has_on_at (q ∷ ps) zero p l e = or_left (eqb q.processor p) (has_on p ps) (eq-eqb q.processor p e)
has_on_at (q ∷ ps) (suc k) p l e = or_right (eqb q.processor p) (has_on p ps) (has_on_at ps k p (omega arith) e)

-- No two parts of one task are on one processor.
pub closing_twins : (xs : List Processor) (ws : List Piece) (ps : List Part) (j k : ℕ) → Closing xs ws ps → j < k → k < length ps →
    (part_at ps j).task ≡ (part_at ps k).task → (part_at ps j).processor ≡ (part_at ps k).processor → ⊥
closing_twins xs ws [] j k h a b et ep = omega arith
closing_twins xs ws (q ∷ ps) j zero h a b et ep = omega arith
closing_twins xs ws (q ∷ ps) zero (suc k) h a b et ep =
    let again : has_part q.task ps ≡ true = has_part_at ps k q.task (omega arith) (sym et) in
    let gone = (h.0 (or_left (has_part q.task ps) (has_piece q.task ws) again)).1 in
    both_ways (has_on q.processor ps) gone (has_on_at ps k q.processor (omega arith) (sym ep))
closing_twins xs ws (q ∷ ps) (suc j) (suc k) h a b et ep = closing_twins xs ws ps j k h.1 (omega arith) (omega arith) et ep

-- The law of closing parts at any place.
pub closing_at : (xs : List Processor) (ws : List Piece) (front : List Part) (p : Part) (back : List Part) → Closing xs ws (front ++ (p ∷ back)) →
    has_part p.task back ≡ true → has_on p.processor back ≡ false
closing_at xs ws [] p back h e = (h.0 (or_left (has_part p.task back) (has_piece p.task ws) e)).1
closing_at xs ws (q ∷ front) p back h e = closing_at xs ws front p back h.1 e

pub bare_closing : (xs : List Processor) (ws : List Piece) (ps : List Part) → Closing xs ws ps → Closing xs ws (map bare ps)
bare_closing xs ws [] h = tt
bare_closing xs ws (p ∷ ps) h = (
  (λ e.
      let old : goes_on ws p ps ≡ true = ap (λ (b : Bool). b || has_piece p.task ws) (has_part_bare p.task ps) ∙ e in
      let held = h.0 old in
      (held.0, sym (has_on_bare p.processor ps) ∙ held.1)),
  bare_closing xs ws ps h.1,
)
