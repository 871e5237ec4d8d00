-- What holds of each element of a list, and sums over a list with one element more.
use Rattle.std.proofs.Common.{◌≡◌, ℕ, zero, suc, ◌+◌, ◌<◌, Bool, ◌||◌, eqb, List, [], ◌∷◌, ◌++◌, length, get_or, refl, arith}
use Rattle.std.specs.List.{list_any}
use Rattle.std.proofs.lemmas.List.Recursion.{or_push}
use Rattle.schedule.specs.declared.Part.{Part}
use Rattle.schedule.specs.Lists.{total}
use Rattle.spa2.specs.declared.piece.Piece.{Piece}
use Rattle.spa2.specs.Laws.{has_on}
use Rattle.spa2.specs.Windows.{has_part}

abbrev pub Each : {A : Type 0} → (A → Type 0) → List A → Type 0
Each P [] = Unit {0}
Each P (x ∷ xs) = P x × Each P xs

pub each_push : {A : Type 0} (P : A → Type 0) (xs : List A) (x : A) → Each P xs → P x → Each P (xs ++ (x ∷ []))
each_push P [] x h p = (p, tt)
each_push P (y ∷ ys) x h p = (h.0, each_push P ys x h.1 p)

pub each_at : {A : Type 0} (P : A → Type 0) (xs : List A) (k : ℕ) (d : A) → Each P xs → k < length xs → P (get_or xs k d)
each_at P [] k d h l = absurd (omega arith)
each_at P (x ∷ xs) zero d h l = h.0
each_at P (x ∷ xs) (suc k) d h l = each_at P xs k d h.1 (omega arith)

pub each_map : {A : Type 0} (P Q : A → Type 0) → ((x : A) → P x → Q x) → (xs : List A) → Each P xs → Each Q xs
each_map P Q f [] h = tt
each_map P Q f (x ∷ xs) h = (f x h.0, each_map P Q f xs h.1)

pub each_all : {A : Type 0} (P : A → Type 0) → ((x : A) → P x) → (xs : List A) → Each P xs
each_all P f [] = tt
each_all P f (x ∷ xs) = (f x, each_all P f xs)

pub total_push : {A : Type 0} (f : A → ℕ) (xs : List A) (x : A) → total f (xs ++ (x ∷ [])) ≡ total f xs + f x
total_push f [] x = omega arith
total_push f (y ∷ ys) x = omega (arith, total_push f ys x)

pub has_part_push : (i : ℕ) (qs : List Part) (r : Part) → has_part i (qs ++ (r ∷ [])) ≡ (has_part i qs || eqb r.task i)
has_part_push i qs r = or_push (has_part i) (λ q. eqb q.task i) refl (λ q rs. refl) qs r

pub has_on_push : (p : ℕ) (qs : List Part) (r : Part) → has_on p (qs ++ (r ∷ [])) ≡ (has_on p qs || eqb r.processor p)
has_on_push p qs r = or_push (has_on p) (λ q. eqb q.processor p) refl (λ q rs. refl) qs r

-- Some piece of the list is one of task i.
abbrev pub has_piece : ℕ → List Piece → Bool
has_piece i xs = list_any (λ x. eqb x.task i) xs
