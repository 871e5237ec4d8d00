-- The least loaded processor, as the library's search by a key finds it.
use Rattle.std.proofs.Common.{◌≡◌, ℕ, suc, ◌+◌, Bool, true, false, cond, List, [], ◌∷◌, map, Some, None, Option, sym, refl, ap, ◌∙◌, subst, arith}
use Rattle.std.proofs.lemmas.Bool.{le-leb, lt-leb}
use Rattle.std.proofs.lemmas.Cmp.{ranked}
use Rattle.std.proofs.lemmas.Iterator.{YieldsList, items_from_drains}
use Rattle.std.specs.Fn.{CalledAt}
use Rattle.std.specs.Iterator.{KeyTurn, PicksMinByKey}
use Rattle.std.specs.List.{FoldsTo, filter, enumerate_from}
use Rattle.std.specs.Option.{option_map}
use Rattle.std.specs.Ordering.{nat_cmp, min_by_ordering}
use Rattle.std.specs.declared.cmp.Ordering.{Ordering}
use Rattle.std.specs.declared.cmp.Ordering.TheVariants.{Less, Equal, Greater}
use denote.Param.Members.{Mut}
use denote.Ref.{Bor}
use Rattle.spa2.specs.declared.state.Processor.{Processor}
use Rattle.spa2.specs.declared.state.seats.Seat.{Seat}
use Rattle.spa2.specs.Choices.{best_from, better, considered, is_open, least_loaded_seat}

-- A numbered processor, and its seat.
abbrev pub shown : ℕ × Bor Processor → ℕ × Processor
shown p = (p.0, p.1.now)

abbrev pub seat_of : ℕ × Processor → Seat
seat_of p = record { number = p.0; load = p.1.load }

abbrev pub opened : ℕ × Processor → Bool
opened p = is_open p.1.standing

-- The best of the seats, in turn.
abbrev best_of : Option Seat → List (ℕ × Processor) → Option Seat
best_of best [] = best
best_of best (p ∷ ps) = best_of (better best (seat_of p)) ps

-- Those that are not open do not count.
best_open : (xs : List Processor) (best : Option Seat) (j k : ℕ) → j ≡ k → best_of best (filter opened (enumerate_from j xs)) ≡ best_from best k xs
best_open [] best j k e = refl
best_open (x ∷ xs) best j k e =
    go (is_open x.standing) (best_open xs (better best (record { number = j; load = x.load })) (j + 1) (suc k) (omega arith)) (best_open xs best (j + 1) (suc k) (omega arith))
    ∙ ap (λ (i : ℕ). best_from (considered best i x) (suc k) xs) e
  where
    go : (b : Bool) → best_of (better best (record { number = j; load = x.load })) (filter opened (enumerate_from (j + 1) xs)) ≡ best_from (better best (record { number = j; load = x.load })) (suc k) xs →
        best_of best (filter opened (enumerate_from (j + 1) xs)) ≡ best_from best (suc k) xs →
        best_of best (cond b ((j, x) ∷ filter opened (enumerate_from (j + 1) xs)) (filter opened (enumerate_from (j + 1) xs)))
        ≡ best_from (cond b (better best (record { number = j; load = x.load })) best) (suc k) xs
    go true h l = h
    go false h l = l

-- Of two, the one that the keys' order picks is the better one.
picked : (o : Ordering) (m k : ℕ) (y x : ℕ × Bor Processor) → nat_cmp m k ≡ o → m ≡ y.1.now.load → k ≡ x.1.now.load →
    (min_by_ordering o m k ≡ (min_by_ordering o y x).1.now.load)
    × (better (Some (seat_of (shown y))) (seat_of (shown x)) ≡ Some (seat_of (shown (min_by_ordering o y x))))
picked Less m k y x e a b =
    let less = ranked m k Less (sym e) in
    (a, ap (λ (v : Bool). cond v (Some (seat_of (shown y))) (Some (seat_of (shown x)))) (le-leb y.1.now.load x.1.now.load (omega (arith, less, a, b))))
picked Equal m k y x e a b =
    let same = ranked m k Equal (sym e) in
    (a, ap (λ (v : Bool). cond v (Some (seat_of (shown y))) (Some (seat_of (shown x)))) (le-leb y.1.now.load x.1.now.load (omega (arith, same, a, b))))
picked Greater m k y x e a b =
    let more = ranked m k Greater (sym e) in
    (b, ap (λ (v : Bool). cond v (Some (seat_of (shown y))) (Some (seat_of (shown x)))) (lt-leb y.1.now.load x.1.now.load (omega (arith, more, a, b))))

module _ {F : Type 0} (g : Mut F (Bor (ℕ × Bor Processor) × Unit {0}) ℕ) (f : F)
    (keyed : (x : ℕ × Bor Processor) (k : ℕ) (q : F) → CalledAt g f x k q → (q ≡ f) × (k ≡ x.1.now.load)) where
  picks : (xs : List (ℕ × Bor Processor)) (p q : (F × ℕ) × (ℕ × Bor Processor)) → p.0.0 ≡ f → p.0.1 ≡ p.1.1.now.load →
      FoldsTo {P = (F × ℕ) × (ℕ × Bor Processor)} (KeyTurn min_by_ordering min_by_ordering g nat_cmp) p xs q →
      best_of (Some (seat_of (shown p.1))) (map shown xs) ≡ Some (seat_of (shown q.1))
  picks [] p q a b h = ap (λ (v : (F × ℕ) × (ℕ × Bor Processor)). Some (seat_of (shown v.1))) h
  picks (x ∷ xs) p q a b h =
      let c = h.0 in
      let turn = h.1 in
      let k = turn.0 in
      let o = turn.1 in
      let told = keyed x k c.0.0 (subst (λ (w : F). CalledAt g w x k c.0.0) a turn.2) in
      let best = picked o p.0.1 k p.1 x turn.3 b told.1 in
      let load : c.0.1 ≡ c.1.1.now.load = turn.4 ∙ best.0 ∙ ap (λ (z : ℕ × Bor Processor). z.1.now.load) (sym turn.5) in
      let next : better (Some (seat_of (shown p.1))) (seat_of (shown x)) ≡ Some (seat_of (shown c.1)) =
      best.1 ∙ ap (λ (z : ℕ × Bor Processor). Some (seat_of (shown z))) (sym turn.5) in
      ap (λ (v : Option Seat). best_of v (map shown xs)) next ∙ picks xs c q told.0 load h.2

-- The first of the least keys is the least loaded seat.
pub least_by_key : {S F : Type 0} {steps : S → Option (ℕ × Bor Processor) → S → Type 0} {g : Mut F (Bor (ℕ × Bor Processor) × Unit {0}) ℕ} (s : S) (f : F)
    (r : Option (ℕ × Bor Processor)) (xs : List Processor) → PicksMinByKey steps g nat_cmp s f r → YieldsList steps shown s (filter opened (enumerate_from 0 xs)) →
    ((x : ℕ × Bor Processor) (k : ℕ) (q : F) → CalledAt g f x k q → (q ≡ f) × (k ≡ x.1.now.load)) → option_map (λ p. seat_of (shown p)) r ≡ least_loaded_seat xs
least_by_key s f None xs h road keyed =
    ap (λ (ps : List (ℕ × Processor)). best_of None ps) (items_from_drains [] (h.1.0, h.1.1, λ _. (h.0, h.1.2)) road) ∙ best_open xs None 0 0 refl
least_by_key {g = g} s f (Some y) xs h road keyed =
    let first = keyed h.0 h.2 h.3 h.6 in
    let d = h.5 in
    sym (picks g f keyed h.1 ((h.3, h.2), h.0) (h.4, y) first.0 first.1 h.7)
    ∙ (ap (λ (ps : List (ℕ × Processor)). best_of None ps) (items_from_drains (h.0 ∷ h.1) (d.1.0, d.1.1, λ _. (d.0, d.1.2)) road) ∙ best_open xs None 0 0 refl)
