-- What every turn keeps holds at the end, and what every visit keeps holds after all.
use Rattle.std.proofs.Common.{◌≡◌, ℕ, zero, suc, ◌+◌, ◌<◌, ◌≤◌, List, [], ◌∷◌, length, Some, None, Ok, Err, Option, Result, sym, refl, ap, subst, arith, length-append}
use Rattle.std.proofs.lemmas.Bool.{cond_both}
use Rattle.schedule.specs.declared.Part.{Part}
use Rattle.parts.specs.declared.fault.PlanFault.{PlanFault}
use Rattle.spa2.specs.declared.piece.Piece.{Piece}
use Rattle.spa2.specs.declared.state.Choice.{Choice}
use Rattle.spa2.specs.Placing.{Tasks, State, with_pieces, after_choice, number_of, placed, fits_whole, whole, split, chosen, settled_by, turns, closed, visited, visited_from}
use Rattle.spa2.proofs.Filling.{turned}
use Rattle.spa2.proofs.Turns.{onward, ahead}

pub ok_same : (ps qs : List Part) → ◌≡◌ {A = Result (List Part) PlanFault} (Ok ps) (Ok qs) → ps ≡ qs
ok_same ps qs e = cc

pub err_never : (e : PlanFault) (ps : List Part) → ◌≡◌ {A = Result (List Part) PlanFault} (Err e) (Ok ps) → ⊥
err_never f ps e = let z : ◌≡◌ {A = ℕ} 0 1 = cc in omega arith

-- The end of the turns: a state without pieces whose parts are those listed.
abbrev pub Ends : (State → Type 0) → List Part → Type 0
Ends P ps = (z : State) × P z × (z.pieces ≡ []) × (ps ≡ z.parts)

module _ (t : Tasks) (P : State → Type 0)
    (step : (s : State) (x : Piece) (xs : List Piece) (c : Choice) → P s → s.pieces ≡ x ∷ xs → chosen (with_pieces s xs) ≡ Some c → P (turned t s x xs c)) where
  at_close : (s : State) (ps : List Part) → P s → (xs : List Piece) → s.pieces ≡ xs → closed xs s.parts ≡ Ok ps → Ends P ps
  at_close s ps h [] q e = (s, h, q, sym (ok_same s.parts ps e))
  at_close s ps h (x ∷ xs) q e = absurd (err_never _ ps e)

  at_choice : (k : ℕ) (s : State) (ps : List Part) → P s → (x : Piece) (xs : List Piece) → s.pieces ≡ x ∷ xs →
      ((z : State) → P z → turns t k z ≡ Ok ps → Ends P ps) →
      (o : Option Choice) → chosen (with_pieces s xs) ≡ o → onward t k x (settled_by t (with_pieces s xs) x o) ≡ Ok ps → Ends P ps
  at_choice k s ps h x xs q go None r e = absurd (err_never _ ps e)
  at_choice k s ps h x xs q go (Some c) r e = go (turned t s x xs c) (step s x xs c h q r) e

  at_turn : (k : ℕ) (s : State) (ps : List Part) → P s → ((z : State) → P z → turns t k z ≡ Ok ps → Ends P ps) →
      (xs : List Piece) → s.pieces ≡ xs → ahead t k s xs ≡ Ok ps → Ends P ps
  at_turn k s ps h go [] q e = (s, h, q, sym (ok_same s.parts ps e))
  at_turn k s ps h go (x ∷ xs) q e = at_choice k s ps h x xs q go (chosen (with_pieces s xs)) refl e

  pub turns_keep : (k : ℕ) (s : State) (ps : List Part) → P s → turns t k s ≡ Ok ps → Ends P ps
  turns_keep zero s ps h e = at_close s ps h s.pieces refl e
  turns_keep (suc k) s ps h e = at_turn k s ps h (λ z hz ez. turns_keep k z ps hz ez) s.pieces refl e

pub visits_keep : (t : Tasks) (Q : ℕ → State → Type 0) → ((i : ℕ) (s : State) → i < t.count → Q i s → Q (i + 1) (visited t s i)) →
    (i n : ℕ) (s : State) → i + n ≤ t.count → Q i s → Q (i + n) (visited_from t s i n)
visits_keep t Q step i zero s h q = subst (λ (j : ℕ). Q j s) (omega arith) q
visits_keep t Q step i (suc n) s h q =
    let e : (i + 1) + n ≡ i + suc n = omega arith in
    subst (λ (j : ℕ). Q j (visited_from t (visited t s i) (i + 1) n)) e (visits_keep t Q step (i + 1) n (visited t s i) (omega arith) (step i s (omega arith) q))

-- Something is placed or is still to be placed.
abbrev SomeLeft : State → Type 0
SomeLeft s = 1 ≤ length s.pieces + length s.parts

left_turned : (t : Tasks) (s : State) (x : Piece) (xs : List Piece) (c : Choice) → SomeLeft (turned t s x xs c)
left_turned t s x xs c =
    let s' = after_choice (with_pieces s xs) c in
    cond_both (fits_whole t s' x (number_of c)) (whole t s' x c) (split t s' x c) SomeLeft
    (λ _. omega (arith, length-append s.parts (placed x.task (number_of c) x.cost ∷ [])))
    (λ _. omega arith)

pub placed_some : (t : Tasks) (k : ℕ) (s : State) (ps : List Part) → SomeLeft s → turns t k s ≡ Ok ps → 1 ≤ length ps
placed_some t k s ps h e =
    let end = turns_keep t SomeLeft (λ s x xs c h q r. left_turned t s x xs c) k s ps h e in
    omega (arith, end.1, ap (λ (xs : List Piece). length xs) end.2, ap (λ (xs : List Part). length xs) end.3)
