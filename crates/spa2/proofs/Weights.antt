-- Every turn leaves a state of less weight: it places a piece whole, or fills a processor.
use Rattle.std.proofs.Common.{◌≡◌, ℕ, zero, suc, ◌+◌, ◌<◌, ◌≤◌, Bool, true, leb, List, [], ◌∷◌, ◌++◌, length, get_or, set, Some, None, Option, refl, ap, subst, arith, length-append}
use Rattle.std.proofs.lemmas.Bool.{cond_both}
use Rattle.schedule.specs.declared.Part.{Part}
use Rattle.schedule.specs.Lists.{one_if}
use Rattle.spa2.specs.declared.piece.Piece.{Piece}
use Rattle.spa2.specs.declared.state.Processor.{Processor}
use Rattle.spa2.specs.declared.state.Choice.{Choice}
use Rattle.spa2.specs.declared.state.Choice.TheVariants.{Normal, Spare}
use Rattle.spa2.specs.declared.state.seats.Seat.{Seat}
use Rattle.spa2.specs.declared.state.Standing.TheVariants.{Full}
use Rattle.spa2.specs.Loads.{load_of}
use Rattle.spa2.specs.Choices.{is_open, least_loaded_seat}
use Rattle.spa2.specs.Placing.{Tasks, State, number_of, processor_at, cut_at, with_cut, placed, whole, split, settled, fits_whole, after_choice, chosen, choice_of, others, opens, weight}
use Rattle.spa2.proofs.Scans.{idle, least_found}

-- Whether a processor counts as open.
abbrev pub counts : Processor → ℕ
counts x = one_if (is_open x.standing)

-- One processor is replaced.
pub opens_set : (xs : List Processor) (p : ℕ) (y : Processor) → p < length xs → opens (set xs p y) + counts (get_or xs p idle) ≡ opens xs + counts y
opens_set [] p y h = absurd (omega arith)
opens_set (x ∷ xs) zero y h = omega arith
opens_set (x ∷ xs) (suc p) y h = omega (arith, opens_set xs p y (omega arith))

pub opens_few : (xs : List Processor) → opens xs ≤ length xs
opens_few [] = omega arith
opens_few (x ∷ xs) = let one : counts x ≤ 1 = cond_both (is_open x.standing) 1 0 (λ k. k ≤ 1) (λ e. omega arith) (λ e. omega arith) in omega (arith, opens_few xs)

with_cut_length : (i p c : ℕ) (ps : List Part) → length (with_cut i p c ps) ≤ length ps + 1
with_cut_length i p c ps =
    cond_both (leb 1 c) (ps ++ (placed i p c ∷ [])) ps (λ qs. length qs ≤ length ps + 1)
    (λ e. omega (arith, length-append ps (placed i p c ∷ []))) (λ e. omega arith)

-- What is weighed of a state when a piece is placed on processor p.
pub record Lighter (s last : State) (spare : ℕ) : Type 0 where
  pub weight_falls : weight last ≤ weight s + spare
  pub parts_grow : length last.parts ≤ length s.parts + 1

-- The processor with the whole piece, and with what is cut of it.
abbrev pub grown : Tasks → State → Piece → ℕ → Processor
grown t s x p = record { load = (processor_at s p).load + load_of x.cost (t.period x.task); standing = (processor_at s p).standing }

abbrev pub filled : Tasks → State → Piece → ℕ → Processor
filled t s x p = record { load = (processor_at s p).load + load_of (cut_at t s x p) (t.period x.task); standing = Full }

whole_normal : (t : Tasks) (s : State) (x : Piece) (p : ℕ) → p < length s.processors → Lighter s (whole t s x (Normal p)) 0
whole_normal t s x p h =
    record {
      weight_falls = omega (arith, opens_set s.processors p (grown t s x p) h);
      parts_grow = omega (arith, length-append s.parts (placed x.task p x.cost ∷ []));
    }

whole_spare : (t : Tasks) (s : State) (x : Piece) (p : ℕ) → p < length s.processors → Lighter s (whole t s x (Spare p)) 1
whole_spare t s x p h =
    record {
      weight_falls = omega (arith, opens_set s.processors p (grown t s x p) h);
      parts_grow = omega (arith, length-append s.parts (placed x.task p x.cost ∷ []));
    }

split_normal : (t : Tasks) (s : State) (x : Piece) (p : ℕ) → p < length s.processors → is_open (processor_at s p).standing ≡ true → Lighter s (split t s x (Normal p)) 0
split_normal t s x p h o =
    let one : counts (processor_at s p) ≡ 1 = ap (λ (b : Bool). one_if b) o in
    record {
      weight_falls = omega (arith, opens_set s.processors p (filled t s x p) h, one);
      parts_grow = with_cut_length x.task p (cut_at t s x p) s.parts;
    }

split_spare : (t : Tasks) (s : State) (x : Piece) (p : ℕ) → p < length s.processors → Lighter s (split t s x (Spare p)) 1
split_spare t s x p h =
    record {
      weight_falls = omega (arith, opens_set s.processors p (filled t s x p) h);
      parts_grow = with_cut_length x.task p (cut_at t s x p) s.parts;
    }

-- A chosen normal processor is an open one of the state.
pub chosen_normal : (s : State) (p : ℕ) → chosen s ≡ Some (Normal p) → (p < length s.processors) × (is_open (processor_at s p).standing ≡ true)
chosen_normal s p e = go (least_loaded_seat s.processors) s.reserve refl e
  where
    go : (o : Option Seat) (ps : List ℕ) → least_loaded_seat s.processors ≡ o → choice_of o ps ≡ Some (Normal p) →
        (p < length s.processors) × (is_open (processor_at s p).standing ≡ true)
    go None [] l h = absurd (let z : ◌≡◌ {A = ℕ} 0 1 = cc in omega arith)
    go None (q ∷ qs) l h = absurd (let z : ◌≡◌ {A = ℕ} 0 1 = cc in omega arith)
    go (Some seat) ps l h =
        let same : seat.number ≡ p = cc in
        subst (λ (k : ℕ). (k < length s.processors) × (is_open (processor_at s k).standing ≡ true)) same (least_found s.processors seat l)

-- A spare one is the front of the reserve.
pub chosen_spare : (s : State) (p : ℕ) → chosen s ≡ Some (Spare p) → s.reserve ≡ p ∷ others s.reserve
chosen_spare s p e = go (least_loaded_seat s.processors) s.reserve e
  where
    go : (o : Option Seat) (ps : List ℕ) → choice_of o ps ≡ Some (Spare p) → ps ≡ p ∷ others ps
    go None [] h = absurd (let z : ◌≡◌ {A = ℕ} 0 1 = cc in omega arith)
    go None (q ∷ qs) h = let same : q ≡ p = cc in ap (λ (k : ℕ). k ∷ qs) same
    go (Some seat) ps h = absurd (let z : ◌≡◌ {A = ℕ} 0 1 = cc in omega arith)

-- A turn makes the state no heavier than it is without the piece, and lists at most one part more.
pub turn_lighter : (t : Tasks) (s : State) (x : Piece) (c : Choice) → chosen s ≡ Some c → number_of c < length s.processors →
    Lighter s (settled t (after_choice s c) x c) 0
turn_lighter t s x (Normal p) e h =
    let s' = after_choice s (Normal p) in
    cond_both (fits_whole t s' x p) (whole t s' x (Normal p)) (split t s' x (Normal p)) (λ z. Lighter s z 0)
    (λ _. whole_normal t s' x p h) (λ _. split_normal t s' x p h (chosen_normal s p e).1)
turn_lighter t s x (Spare p) e h =
    let s' = after_choice s (Spare p) in
    let front : length s.reserve ≡ suc (length (others s.reserve)) = ap (λ (ps : List ℕ). length ps) (chosen_spare s p e) in
    cond_both (fits_whole t s' x p) (whole t s' x (Spare p)) (split t s' x (Spare p)) (λ z. Lighter s z 0)
    (λ _. let l = whole_spare t s' x p h in record { weight_falls = omega (arith, l.weight_falls, front); parts_grow = l.parts_grow })
    (λ _. let l = split_spare t s' x p h in record { weight_falls = omega (arith, l.weight_falls, front); parts_grow = l.parts_grow })
