-- Small words on lists that the other pages use.
use Rattle.std.specs.Prelude.{◌≡◌, ℕ, zero, suc, ◌+◌, Bool, cond, List, [], ◌∷◌, ◌++◌}

-- x stands in the list.
abbrev pub ◌∈◌ : {A : Type 0} → A → List A → Type 0
◌∈◌ {A} x xs = (before : List A) × (after : List A) × (xs ≡ before ++ (x ∷ after))

-- The sum of f over a list.
abbrev pub total : {A : Type 0} → (A → ℕ) → List A → ℕ
total f [] = 0
total f (x ∷ xs) = f x + total f xs

-- The numbers from k on, n of them.
abbrev pub up_from : ℕ → ℕ → List ℕ
up_from k zero = []
up_from k (suc n) = k ∷ up_from (suc k) n

-- The numbers 0 to n - 1.
abbrev pub below : ℕ → List ℕ
below n = up_from 0 n

-- 1 where the test holds, else 0.
abbrev pub one_if : Bool → ℕ
one_if b = cond b 1 0

infix 40 ◌∈◌
