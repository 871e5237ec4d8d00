-- What the memory under a front list holds after a write.
use Rattle.std.proofs.Common.{◌≡◌, ℕ, ◌+◌, ◌<◌, List, [], ◌∷◌, reverse, length, take, set, ap, ◌∙◌}
use Rattle.std.proofs.lemmas.List.{take_more_set, reverse-append}

-- An element written behind the counted ones is in front of the list.
pub reversed_push : {X : Type 0} (xs : List X) (n : ℕ) (x : X) → n < length xs → reverse (take (n + 1) (set xs n x)) ≡ x ∷ reverse (take n xs)
reversed_push {X} xs n x h = ap (λ (l : List X). reverse l) (take_more_set xs n x h) ∙ reverse-append (take n xs) (x ∷ [])
