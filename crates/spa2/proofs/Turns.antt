-- One turn further.
use Rattle.std.proofs.Common.{◌≡◌, ℕ, zero, suc, List, [], ◌∷◌, Some, None, Ok, Err, Option, Result, ap, ◌∙◌}
use Rattle.schedule.specs.declared.Part.{Part}
use Rattle.parts.specs.declared.fault.PlanFault.{PlanFault}
use Rattle.parts.specs.declared.fault.PlanFault.TheVariants.{Unplaced}
use Rattle.spa2.specs.declared.piece.Piece.{Piece}
use Rattle.spa2.specs.Placing.{Tasks, State, with_pieces, turn, turns, closed}

-- What follows a turn with piece x, of k more.
abbrev pub onward : Tasks → ℕ → Piece → Option State → Result (List Part) PlanFault
onward t k x o = elim o [ None ↦ Err (Unplaced x.task) | Some next ↦ turns t k next ]

abbrev pub ahead : Tasks → ℕ → State → List Piece → Result (List Part) PlanFault
ahead t k s ps = elim ps [ [] ↦ Ok s.parts | x ∷ xs ↦ onward t k x (turn t (with_pieces s xs) x) ]

pub turns_done : (t : Tasks) (k : ℕ) (s : State) → s.pieces ≡ [] → turns t k s ≡ Ok s.parts
turns_done t zero s e = ap (λ (ps : List Piece). closed ps s.parts) e
turns_done t (suc k) s e = ap (λ (ps : List Piece). ahead t k s ps) e

pub turns_stuck : (t : Tasks) (k : ℕ) (s : State) (x : Piece) (xs : List Piece) → s.pieces ≡ x ∷ xs → turn t (with_pieces s xs) x ≡ None →
    turns t k s ≡ Err (Unplaced x.task)
turns_stuck t zero s x xs e none = ap (λ (ps : List Piece). closed ps s.parts) e
turns_stuck t (suc k) s x xs e none = ap (λ (ps : List Piece). ahead t k s ps) e ∙ ap (λ (o : Option State). onward t k x o) none

pub turns_on : (t : Tasks) (k : ℕ) (s z : State) (x : Piece) (xs : List Piece) → s.pieces ≡ x ∷ xs → turn t (with_pieces s xs) x ≡ Some z →
    turns t (suc k) s ≡ turns t k z
turns_on t k s z x xs e some = ap (λ (ps : List Piece). ahead t k s ps) e ∙ ap (λ (o : Option State). onward t k x o) some
