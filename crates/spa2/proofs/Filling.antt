-- A turn of the loop that fills the processors.
use Rattle.std.proofs.Common.{◌≡◌, ℕ, zero, suc, ◌+◌, ◌<◌, ◌≤◌, List, ◌∷◌, length, Some, None, Option, Result, refl, ap, ◌∙◌, subst, arith}
use Rattle.schedule.specs.declared.Part.{Part}
use Rattle.parts.specs.declared.fault.PlanFault.{PlanFault}
use Rattle.spa2.specs.declared.piece.Piece.{Piece}
use Rattle.spa2.specs.declared.state.Choice.{Choice}
use Rattle.spa2.specs.declared.state.Choice.TheVariants.{Normal, Spare}
use Rattle.spa2.specs.Placing.{Tasks, State, with_pieces, after_choice, others, number_of, chosen, settled, settled_by, turn, turns, weight}
use Rattle.spa2.proofs.Turns.{turns_on}
use Rattle.spa2.proofs.Reserves.{Known, front_known}
use Rattle.spa2.proofs.Weights.{turn_lighter, chosen_normal, chosen_spare}

-- The state after a turn with front piece x.
abbrev pub turned : Tasks → State → Piece → List Piece → Choice → State
turned t s x xs c = settled t (after_choice (with_pieces s xs) c) x c

-- A processor that is chosen is there: an open one, or one in reserve.
pub chosen_known : (s : State) (c : Choice) → Known (length s.processors) s.reserve → chosen s ≡ Some c → number_of c < length s.processors
chosen_known s (Normal p) k e = (chosen_normal s p e).0
chosen_known s (Spare p) k e = front_known (length s.processors) s.reserve (others s.reserve) p (chosen_spare s p e) k

-- The turn is lighter than the state before it, and the parts and what is left stay as few as they were.
pub turned_lighter : (t : Tasks) (s : State) (x : Piece) (xs : List Piece) (c : Choice) →
    s.pieces ≡ x ∷ xs → chosen (with_pieces s xs) ≡ Some c → number_of c < length s.processors →
    (weight (turned t s x xs c) < weight s) × (length (turned t s x xs c).parts + weight (turned t s x xs c) ≤ length s.parts + weight s)
turned_lighter t s x xs c e h n =
    let l = turn_lighter t (with_pieces s xs) x c h n in
    let one : length s.pieces ≡ suc (length xs) = ap (λ (ps : List Piece). length ps) e in
    (omega (arith, l.weight_falls, one), omega (arith, l.weight_falls, l.parts_grow, one))

-- The same of what a turn comes to.
pub turn_falls : (t : Tasks) (s z : State) (x : Piece) (xs : List Piece) → Known (length s.processors) s.reserve → s.pieces ≡ x ∷ xs →
    turn t (with_pieces s xs) x ≡ Some z → (weight z < weight s) × (length z.parts + weight z ≤ length s.parts + weight s)
turn_falls t s z x xs k e h = go (chosen (with_pieces s xs)) refl h
  where
    go : (o : Option Choice) → chosen (with_pieces s xs) ≡ o → settled_by t (with_pieces s xs) x o ≡ Some z →
        (weight z < weight s) × (length z.parts + weight z ≤ length s.parts + weight s)
    go None f g = absurd (let n : ◌≡◌ {A = ℕ} 0 1 = cc in omega arith)
    go (Some c) f g =
        let same : turned t s x xs c ≡ z = cc in
        subst (λ (v : State). (weight v < weight s) × (length v.parts + weight v ≤ length s.parts + weight s)) same
        (turned_lighter t s x xs c e f (chosen_known (with_pieces s xs) c k f))

-- Enough turns from the state come to what enough turns from the next one come to.
pub turn_same : (t : Tasks) (s z : State) (x : Piece) (xs : List Piece) (E : Result (List Part) PlanFault) → s.pieces ≡ x ∷ xs →
    turn t (with_pieces s xs) x ≡ Some z → weight z < weight s → (j : ℕ) → weight s ≤ j → E ≡ turns t j s → (k : ℕ) × (weight z ≤ k) × (E ≡ turns t k z)
turn_same t s z x xs E e h l zero w q = absurd (let one : length s.pieces ≡ suc (length xs) = ap (λ (ps : List Piece). length ps) e in omega (arith, one))
turn_same t s z x xs E e h l (suc j) w q = (j, omega arith, q ∙ turns_on t j s z x xs e h)
