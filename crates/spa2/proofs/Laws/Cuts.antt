-- A part whose task goes on elsewhere was the last on its processor, which is full.
use Rattle.std.proofs.Common.{◌≡◌, ℕ, ◌<◌, Bool, true, false, ◌||◌, eqb, List, [], ◌∷◌, ◌++◌, length, set, sym, refl, ap, ◌∙◌, subst, inl, inr}
use Rattle.std.proofs.lemmas.Bool.{or_cases, or_left, or_right, or_from, eqb-true, ne_eqb}
use Rattle.schedule.specs.declared.Part.{Part}
use Rattle.spa2.specs.declared.piece.Piece.{Piece}
use Rattle.spa2.specs.declared.state.Processor.{Processor}
use Rattle.spa2.specs.declared.state.Standing.TheVariants.{Full}
use Rattle.spa2.specs.Laws.{has_on}
use Rattle.spa2.specs.Windows.{has_part}
use Rattle.spa2.proofs.Laws.Each.{Each, has_piece, has_part_push, has_on_push}
use Rattle.spa2.proofs.Laws.Seats.{standing_at, standing_same, standing_other}

-- More of the task of part q is listed after it, or is still to be placed.
abbrev pub goes_on : List Piece → Part → List Part → Bool
goes_on ws q ys = has_part q.task ys || has_piece q.task ws

abbrev pub Closing : List Processor → List Piece → List Part → Type 0
Closing xs ws [] = Unit {0}
Closing xs ws (q ∷ ys) = (goes_on ws q ys ≡ true → (standing_at xs q.processor ≡ Full) × (has_on q.processor ys ≡ false)) × Closing xs ws ys

-- Whoever has a piece among the new ones had one among the old.
abbrev pub Fewer : List Piece → List Piece → Type 0
Fewer ws new = (i : ℕ) → has_piece i new ≡ true → has_piece i ws ≡ true

module _ (xs : List Processor) (p : ℕ) (y : Processor) (apart : standing_at xs p ≡ Full → ⊥) where
  still_full : (q : ℕ) → standing_at xs q ≡ Full → (q ≡ p → ⊥) × (standing_at (set xs p y) q ≡ Full)
  still_full q f =
      let other : q ≡ p → ⊥ = λ e. apart (sym (ap (λ (k : ℕ). standing_at xs k) e) ∙ f) in
      (other, standing_other xs p q y other ∙ f)

  -- A processor that was not full changes, and no part is listed.
  pub closing_kept : (ws new : List Piece) (ps : List Part) → Fewer ws new → Closing xs ws ps → Closing (set xs p y) new ps
  closing_kept ws new [] f h = tt
  closing_kept ws new (q ∷ ys) f h = (
    (λ e.
        let old : goes_on ws q ys ≡ true = elim (or_cases (has_part q.task ys) (has_piece q.task new) e) [
          | inl a ↦ or_left (has_part q.task ys) (has_piece q.task ws) a
          | inr b ↦ or_right (has_part q.task ys) (has_piece q.task ws) (f q.task b)
        ] in
        let held = h.0 old in
        ((still_full q.processor held.0).1, held.1)),
    closing_kept ws new ys f h.1,
  )

  -- A part is listed on a processor that was not full, and the processor is full if more of the part's task is to be placed.
  pub closing_push : (ws new : List Piece) (ps : List Part) (r : Part) → p < length xs → r.processor ≡ p → Fewer ws new →
      Each (λ q. q.task ≡ r.task → has_piece q.task ws ≡ true) ps → (has_piece r.task new ≡ true → y.standing ≡ Full) →
      Closing xs ws ps → Closing (set xs p y) new (ps ++ (r ∷ []))
  closing_push ws new [] r l e f g last h =
      ((λ a. (subst (λ (k : ℕ). standing_at (set xs p y) k ≡ Full) (sym e) (standing_same xs p y l ∙ last a), refl)), tt)
  closing_push ws new (q ∷ ys) r l e f g last h = (
    (λ a.
        let old : goes_on ws q ys ≡ true = elim (or_cases (has_part q.task (ys ++ (r ∷ []))) (has_piece q.task new) a) [
          | inl b ↦ elim (or_cases (has_part q.task ys) (eqb r.task q.task) (sym (has_part_push q.task ys r) ∙ b)) [
            | inl d ↦ or_left (has_part q.task ys) (has_piece q.task ws) d
            | inr d ↦ or_right (has_part q.task ys) (has_piece q.task ws) (g.0 (sym (eqb-true r.task q.task d)))
          ]
          | inr b ↦ or_right (has_part q.task ys) (has_piece q.task ws) (f q.task b)
        ] in
        let held = h.0 old in
        let still = still_full q.processor held.0 in
        let elsewhere : eqb r.processor q.processor ≡ false = ne_eqb r.processor q.processor (λ d. still.0 (sym d ∙ e)) in
        (still.1, has_on_push q.processor ys r ∙ or_from (has_on q.processor ys) (eqb r.processor q.processor) held.1 elsewhere)),
    closing_push ws new ys r l e f g.1 last h.1,
  )

-- Pieces are added of tasks that no part is of.
pub closing_pieces : (xs : List Processor) (ws new : List Piece) (ps : List Part) →
    Each (λ q. has_piece q.task new ≡ true → has_piece q.task ws ≡ true) ps → Closing xs ws ps → Closing xs new ps
closing_pieces xs ws new [] f h = tt
closing_pieces xs ws new (q ∷ ys) f h = (
  (λ e.
      elim (or_cases (has_part q.task ys) (has_piece q.task new) e) [
        | inl a ↦ h.0 (or_left (has_part q.task ys) (has_piece q.task ws) a)
        | inr b ↦ h.0 (or_right (has_part q.task ys) (has_piece q.task ws) (f.0 b))
      ]),
  closing_pieces xs ws new ys f.1 h.1,
)
