-- The search for the least loaded processor, one processor further.
use Rattle.std.proofs.Common.{◌≡◌, ℕ, zero, suc, ◌+◌, ◌<◌, ◌≤◌, true, false, leb, List, length, get_or, drop, Some, None, Option, sym, refl, ap, ◌∙◌, subst, inl, inr, add-one, arith, drop-cons}
use Rattle.std.proofs.lemmas.List.{drop_all}
use Rattle.std.proofs.lemmas.Bool.{both_ways, cases_eq, cond_both, leb-true, leb-false}
use Rattle.spa2.specs.declared.state.Processor.{Processor}
use Rattle.spa2.specs.declared.state.Standing.TheVariants.{Open}
use Rattle.spa2.specs.declared.state.seats.Seat.{Seat}
use Rattle.spa2.specs.Choices.{best_from, better, considered, is_open, least_loaded_seat, LeastOpen}

-- A processor with no load: what is read past the last one.
abbrev pub idle : Processor
idle = record { load = 0; standing = Open }

pub scan_more : (xs : List Processor) (best : Option Seat) (i : ℕ) (d : Processor) → i < length xs →
    best_from best i (drop i xs) ≡ best_from (considered best i (get_or xs i d)) (i + 1) (drop (i + 1) xs)
scan_more xs best i d h =
    ap (λ (l : List Processor). best_from best i l) (drop-cons xs i d h)
    ∙ ap (λ (k : ℕ). best_from (considered best i (get_or xs i d)) k (drop k xs)) (sym (add-one i))

pub scan_all : (xs : List Processor) (best : Option Seat) (i : ℕ) → length xs ≤ i → best_from best i (drop i xs) ≡ best
scan_all xs best i h = ap (λ (l : List Processor). best_from best i l) (drop_all i xs h)

-- The best of the first k processors.
abbrev Best : List Processor → ℕ → Option Seat → Type 0
Best xs k None = (j : ℕ) → j < k → is_open (get_or xs j idle).standing ≡ false
Best xs k (Some seat) =
    (seat.number < k)
    × (is_open (get_or xs seat.number idle).standing ≡ true)
    × (seat.load ≡ (get_or xs seat.number idle).load)
    × ((j : ℕ) → j < k → is_open (get_or xs j idle).standing ≡ true → (seat.load ≤ (get_or xs j idle).load) × (seat.load ≡ (get_or xs j idle).load → seat.number ≤ j))

-- The next processor is not open.
best_past : (xs : List Processor) (k : ℕ) (best : Option Seat) → is_open (get_or xs k idle).standing ≡ false → Best xs k best → Best xs (k + 1) best
best_past xs k None e h = λ j l.
    elim (cases_eq j k) [
      | inl same ↦ subst (λ (i : ℕ). is_open (get_or xs i idle).standing ≡ false) (sym same) e
      | inr other ↦ h j (omega arith)
    ]
best_past xs k (Some seat) e h = (
  omega (arith, h.0),
  h.1,
  h.2,
  λ j l o. elim (cases_eq j k) [
    | inl same ↦ absurd (both_ways (is_open (get_or xs j idle).standing) (subst (λ (i : ℕ). is_open (get_or xs i idle).standing ≡ false) (sym same) e) o)
    | inr other ↦ h.3 j (omega arith) o
  ],
)

-- The next processor is open.
best_next : (xs : List Processor) (k : ℕ) (best : Option Seat) → is_open (get_or xs k idle).standing ≡ true → Best xs k best →
    Best xs (k + 1) (better best (record { number = k; load = (get_or xs k idle).load }))
best_next xs k None e h = (
  omega arith,
  e,
  refl,
  λ j l o. elim (cases_eq j k) [
    | inl same ↦
        let even : (get_or xs k idle).load ≡ (get_or xs j idle).load = ap (λ (i : ℕ). (get_or xs i idle).load) (sym same) in
        (omega (arith, even), λ _. omega arith)
    | inr other ↦ absurd (both_ways (is_open (get_or xs j idle).standing) (h j (omega arith)) o)
  ],
)
best_next xs k (Some old) e h =
    let seat : Seat = record { number = k; load = (get_or xs k idle).load } in
    cond_both (leb old.load seat.load) (Some old) (Some seat) (λ o. Best xs (k + 1) o)
    (λ b. (
      omega (arith, h.0),
      h.1,
      h.2,
      λ j l o. elim (cases_eq j k) [
        | inl same ↦
            let even : (get_or xs k idle).load ≡ (get_or xs j idle).load = ap (λ (i : ℕ). (get_or xs i idle).load) (sym same) in
            (omega (arith, even, leb-true old.load seat.load b), λ _. omega (arith, h.0))
        | inr other ↦ h.3 j (omega arith) o
      ],
    ))
    (λ b.
    let less = leb-false old.load seat.load b in (
      omega arith,
      e,
      refl,
      λ j l o. elim (cases_eq j k) [
        | inl same ↦
            let even : (get_or xs k idle).load ≡ (get_or xs j idle).load = ap (λ (i : ℕ). (get_or xs i idle).load) (sym same) in
            (omega (arith, even), λ _. omega arith)
        | inr other ↦ let most = (h.3 j (omega arith) o).0 in (omega (arith, less, most), λ q. absurd (omega (arith, less, most)))
      ],
    ))

best_more : (xs : List Processor) (k : ℕ) (best : Option Seat) → Best xs k best → Best xs (k + 1) (considered best k (get_or xs k idle))
best_more xs k best h =
    let x = get_or xs k idle in
    cond_both (is_open x.standing) (better best (record { number = k; load = x.load })) best (λ o. Best xs (k + 1) o)
    (λ e. best_next xs k best e h) (λ e. best_past xs k best e h)

best_all : (n : ℕ) (xs : List Processor) (best : Option Seat) (k : ℕ) → k + n ≡ length xs → Best xs k best → Best xs (length xs) (best_from best k (drop k xs))
best_all zero xs best k e h =
    subst (λ (o : Option Seat). Best xs (length xs) o) (sym (scan_all xs best k (omega arith)))
    (let end : k ≡ length xs = omega arith in subst (λ (i : ℕ). Best xs i best) end h)
best_all (suc n) xs best k e h =
    subst (λ (o : Option Seat). Best xs (length xs) o) (sym (scan_more xs best k idle (omega arith)))
    (best_all n xs (considered best k (get_or xs k idle)) (k + 1) (omega arith) (best_more xs k best h))

-- The search finds the least loaded of the open processors, of equal loads the smallest number.
pub least_open : (xs : List Processor) → LeastOpen xs (least_loaded_seat xs)
least_open xs = go (least_loaded_seat xs) (best_all (length xs) xs None 0 (omega arith) (λ j l. absurd (omega arith)))
  where
    go : (o : Option Seat) → Best xs (length xs) o → LeastOpen xs o
    go None h = h
    go (Some seat) h = h

-- What it finds is one of the open processors.
pub least_found : (xs : List Processor) (seat : Seat) → least_loaded_seat xs ≡ Some seat → (seat.number < length xs) × (is_open (get_or xs seat.number idle).standing ≡ true)
least_found xs seat e = let found = subst (λ (o : Option Seat). LeastOpen xs o) e (least_open xs) in (found.0, found.1)
