-- Which processor a piece goes to.
use Rattle.std.specs.Prelude.{◌≡◌, ℕ, suc, ◌<◌, ◌≤◌, Bool, true, false, cond, List, [], ◌∷◌, length, Some, None, Option, nat_le, slice_index_or}
use Rattle.spa2.specs.declared.state.Standing.{Standing}
use Rattle.spa2.specs.declared.state.Standing.TheVariants.{Open, Reserved, Full}
use Rattle.spa2.specs.declared.state.Processor.{Processor}
use Rattle.spa2.specs.declared.state.seats.Seat.{Seat}

abbrev pub is_open : Standing → Bool
is_open Open = true
is_open Reserved = false
is_open Full = false

-- The processor with number k; past the last there is one with no load.
abbrev pub seat_at : List Processor → ℕ → Processor
seat_at xs k = slice_index_or xs k (record { load = 0; standing = Open })

-- The better of the best so far and a later one: only a smaller load is better.
abbrev pub better : Option Seat → Seat → Option Seat
better None seat = Some seat
better (Some old) seat = cond (nat_le old.load seat.load) (Some old) (Some seat)

-- The best so far once processor k is looked at: only an open one counts.
abbrev pub considered : Option Seat → ℕ → Processor → Option Seat
considered best k x = cond (is_open x.standing) (better best (record { number = k; load = x.load })) best

-- The best so far and the open ones of the processors from number k on: the least loaded, of equal loads the smallest number.
abbrev pub best_from : Option Seat → ℕ → List Processor → Option Seat
best_from best k [] = best
best_from best k (x ∷ xs) = best_from (considered best k x) (suc k) xs

-- The least loaded of the open processors, of equal loads the smallest number.
abbrev pub least_loaded_seat : List Processor → Option Seat
least_loaded_seat xs = best_from None 0 xs

-- What is found: none where no processor is open; else the number and the load of an open one, which no open processor is
-- loaded below, and which has the smallest number of those that are loaded alike.
abbrev pub LeastOpen : List Processor → Option Seat → Type 0
LeastOpen xs None = (k : ℕ) → k < length xs → is_open (seat_at xs k).standing ≡ false
LeastOpen xs (Some seat) =
    (seat.number < length xs)
    × (is_open (seat_at xs seat.number).standing ≡ true)
    × (seat.load ≡ (seat_at xs seat.number).load)
    × ((k : ℕ) → k < length xs → is_open (seat_at xs k).standing ≡ true → (seat.load ≤ (seat_at xs k).load) × (seat.load ≡ (seat_at xs k).load → seat.number ≤ k))
