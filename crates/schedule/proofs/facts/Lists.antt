-- Tests, membership, sums over lists, what holds of each element, and the numbers below n.
use Rattle.std.proofs.Common.{◌≡◌, ℕ, zero, suc, ◌+◌, ◌*◌, ◌<◌, ◌≤◌, Bool, true, false, cond, T, ◌⊎◌, List, [], ◌∷◌, ◌++◌, length, get_or, sym, refl, ap, ◌∙◌, subst, inl, inr, suc-mul, arith}
use Rattle.std.proofs.lemmas.Bool.{cases_eq}
use Rattle.schedule.specs.Lists.{◌∈◌, total, up_from, below, one_if}

-- Tests.
pub from_T : (b : Bool) → T b → b ≡ true
from_T true t = refl
from_T false t = absurd t

pub to_T : (b : Bool) → b ≡ true → T b
to_T true e = tt
to_T false e = let z : ◌≡◌ {A = ℕ} 0 1 = cc in omega arith

pub one_if_le : (b : Bool) → one_if b ≤ 1
one_if_le true = omega arith
one_if_le false = omega arith

pub cond_mono : (t : Bool) (x y : ℕ) → (t ≡ true → x ≤ y) → cond t x 0 ≤ cond t y 0
cond_mono true x y h = h refl
cond_mono false x y h = omega arith

pub cond_strict : (t : Bool) (x y : ℕ) → t ≡ true → x < y → cond t x 0 < cond t y 0
cond_strict true x y e h = h
cond_strict false x y e h = absurd (to_T false e)

pub cond_at_most : (t : Bool) (n : ℕ) → cond t n 0 ≤ n
cond_at_most true n = omega arith
cond_at_most false n = omega arith

pub cond_neither : (b : Bool) → cond b false false ≡ false
cond_neither true = refl
cond_neither false = refl

pub nil_cons : {A : Type 0} (x : A) (xs : List A) → ◌≡◌ {A = List A} [] (x ∷ xs) → ⊥
nil_cons x xs h = let z : ◌≡◌ {A = ℕ} 0 1 = cc h in omega arith

-- Membership.
pub in_here : {A : Type 0} (x : A) (xs : List A) → x ∈ (x ∷ xs)
in_here x xs = ([], xs, refl)

pub in_there : {A : Type 0} (x y : A) (xs : List A) → x ∈ xs → x ∈ (y ∷ xs)
in_there {A} x y xs m = (y ∷ m.0, m.1, ap {B = List A} (λ l. y ∷ l) m.2)

pub in_none : {A : Type 0} (x : A) → x ∈ [] → ⊥
in_none {A} x m = go m.0 m.1 m.2
  where
    go : (bs ts : List A) → [] ≡ bs ++ (x ∷ ts) → ⊥
    go [] ts e = let z : ◌≡◌ {A = ℕ} 0 1 = cc in omega arith
    go (b ∷ bs) ts e = let z : ◌≡◌ {A = ℕ} 0 1 = cc in omega arith

pub in_cases : {A : Type 0} (x y : A) (xs : List A) → x ∈ (y ∷ xs) → (x ≡ y) ⊎ (x ∈ xs)
in_cases {A} x y xs m = go m.0 m.1 m.2
  where
    go : (bs ts : List A) → (y ∷ xs) ≡ bs ++ (x ∷ ts) → (x ≡ y) ⊎ (x ∈ xs)
    go [] ts e = inl (cc)
    go (b ∷ bs) ts e = inr (bs, ts, (cc))

-- Sums.
pub total_le : {A : Type 0} (f g : A → ℕ) (xs : List A) → ((x : A) → x ∈ xs → f x ≤ g x) → total f xs ≤ total g xs
total_le f g [] h = omega arith
total_le f g (x ∷ xs) h = omega (arith, h x (in_here x xs), total_le f g xs (λ z m. h z (in_there z x xs m)))

pub total_same : {A : Type 0} (f g : A → ℕ) (xs : List A) → ((x : A) → x ∈ xs → f x ≡ g x) → total f xs ≡ total g xs
total_same f g [] h = refl
total_same f g (x ∷ xs) h = omega (arith, h x (in_here x xs), total_same f g xs (λ z m. h z (in_there z x xs m)))

-- where one of them is strict
pub total_lt : {A : Type 0} (f g : A → ℕ) (xs : List A) (y : A) → y ∈ xs → ((x : A) → x ∈ xs → f x ≤ g x) → f y < g y → total f xs < total g xs
total_lt f g [] y m h lt = absurd (in_none y m)
total_lt f g (x ∷ xs) y m h lt =
    elim (in_cases y x xs m) [
      | inl e ↦ let k : f x < g x = subst (λ z. f z < g z) e lt in omega (arith, total_le f g xs (λ z m. h z (in_there z x xs m)))
      | inr n ↦ omega (arith, h x (in_here x xs), total_lt f g xs y n (λ z m. h z (in_there z x xs m)) lt)
    ]

pub total_none : {A : Type 0} (f : A → ℕ) (xs : List A) → ((x : A) → x ∈ xs → f x ≡ 0) → total f xs ≡ 0
total_none f [] h = refl
total_none f (x ∷ xs) h = omega (arith, h x (in_here x xs), total_none f xs (λ z m. h z (in_there z x xs m)))

pub total_plus : {A : Type 0} (f g : A → ℕ) (xs : List A) → total (λ x. f x + g x) xs ≡ total f xs + total g xs
total_plus f g [] = refl
total_plus f g (x ∷ xs) = omega (arith, total_plus f g xs)

cond_plus : (t : Bool) (c d : ℕ) → cond t (c + d) 0 ≡ cond t c 0 + cond t d 0
cond_plus true c d = refl
cond_plus false c d = refl

pub total_cond_plus : {A : Type 0} (t : A → Bool) (c d : A → ℕ) (xs : List A) →
    total (λ x. cond (t x) (c x + d x) 0) xs ≡ total (λ x. cond (t x) (c x) 0) xs + total (λ x. cond (t x) (d x) 0) xs
total_cond_plus t c d xs =
    total_same (λ x. cond (t x) (c x + d x) 0) (λ x. cond (t x) (c x) 0 + cond (t x) (d x) 0) xs (λ x m. cond_plus (t x) (c x) (d x))
    ∙ total_plus (λ x. cond (t x) (c x) 0) (λ x. cond (t x) (d x) 0) xs

pub total_append : {A : Type 0} (f : A → ℕ) (xs ys : List A) → total f (xs ++ ys) ≡ total f xs + total f ys
total_append f [] ys = omega arith
total_append f (x ∷ xs) ys = omega (arith, total_append f xs ys)

pub total_at : {A : Type 0} (f : A → ℕ) (xs : List A) (y : A) → y ∈ xs → f y ≤ total f xs
total_at f [] y m = absurd (in_none y m)
total_at f (x ∷ xs) y m =
    elim (in_cases y x xs m) [
      | inl e ↦ let k : f y ≡ f x = ap f e in omega arith
      | inr n ↦ omega (arith, total_at f xs y n)
    ]

-- At most as many times a bound as there are elements.
pub total_bound : {A : Type 0} (f : A → ℕ) (b : ℕ) (xs : List A) → ((x : A) → x ∈ xs → f x ≤ b) → total f xs ≤ length xs * b
total_bound f b [] h = omega arith
total_bound f b (x ∷ xs) h = omega (arith, suc-mul (length xs) b, h x (in_here x xs), total_bound f b xs (λ z m. h z (in_there z x xs m)))

-- At most the bound, where no two elements count.
pub total_once : {A : Type 0} (f : A → ℕ) (b : ℕ) (xs : List A) → ((x : A) → x ∈ xs → f x ≤ b) →
    ((us bs cs : List A) (x y : A) → xs ≡ us ++ (x ∷ (bs ++ (y ∷ cs))) → 0 < f x → 0 < f y → ⊥) → total f xs ≤ b
total_once f b [] h k = omega arith
total_once {A} f b (x ∷ xs) h k =
    elim (cases_eq (f x) 0) [
      | inl z ↦ omega (arith, total_once f b xs (λ y m. h y (in_there y x xs m)) (λ us bs cs a b e. k (x ∷ us) bs cs a b (ap {B = List A} (λ l. x ∷ l) e)))
      | inr nz ↦
          let none : total f xs ≡ 0 = total_none f xs (λ y m. elim (cases_eq (f y) 0) [
            | inl z ↦ z
            | inr nz' ↦ absurd (k [] m.0 m.1 x y (ap {B = List A} (λ l. x ∷ l) m.2) (omega arith) (omega arith))
          ]) in
          omega (arith, h x (in_here x xs))
    ]

-- Two sums in either order.
pub total_exchange : {A B : Type 0} (g : A → B → ℕ) (xs : List A) (ys : List B) → total (λ x. total (g x) ys) xs ≡ total (λ y. total (λ x. g x y) xs) ys
total_exchange g [] ys = sym (total_none (λ y. total (λ x. g x y) []) ys (λ y m. refl))
total_exchange g (x ∷ xs) ys = omega (arith, total_exchange g xs ys, total_plus (g x) (λ y. total (λ x. g x y) xs) ys)

-- The numbers below n.
pub in_upFrom : (k a n : ℕ) → a ≤ k → k < a + n → k ∈ up_from a n
in_upFrom k a zero h l = absurd (omega arith)
in_upFrom k a (suc n) h l =
    elim (cases_eq k a) [
      | inl e ↦ rw e (in_here a (up_from (suc a) n))
      | inr ne ↦ in_there k a (up_from (suc a) n) (in_upFrom k (suc a) n (omega arith) (omega arith))
    ]

pub upFrom_in : (k a n : ℕ) → k ∈ up_from a n → (a ≤ k) × (k < a + n)
upFrom_in k a zero m = absurd (in_none k m)
upFrom_in k a (suc n) m =
    elim (in_cases k a (up_from (suc a) n) m) [
      | inl e ↦ omega arith
      | inr m' ↦ omega (arith, upFrom_in k (suc a) n m')
    ]

pub in_below : (k n : ℕ) → k < n → k ∈ below n
in_below k n h = in_upFrom k 0 n (omega arith) (omega arith)

upFrom_length : (a n : ℕ) → length (up_from a n) ≡ n
upFrom_length a zero = refl
upFrom_length a (suc n) = ap suc (upFrom_length (suc a) n)

pub below_length : (n : ℕ) → length (below n) ≡ n
below_length n = upFrom_length 0 n

pub below_in : (k n : ℕ) → k ∈ below n → k < n
below_in k n m = omega (arith, upFrom_in k 0 n m)

-- What holds of each element.
abbrev pub Each : {A : Type 0} → (A → Type 0) → List A → Type 0
Each P [] = Unit
Each P (x ∷ xs) = P x × Each P xs

pub each_at : {A : Type 0} (P : A → Type 0) (xs ys : List A) (x : A) → Each P (xs ++ (x ∷ ys)) → P x
each_at P [] ys x h = h.0
each_at P (y ∷ xs) ys x h = each_at P xs ys x h.1

pub each_rest : {A : Type 0} (P : A → Type 0) (xs ys : List A) → Each P (xs ++ ys) → Each P ys
each_rest P [] ys h = h
each_rest P (y ∷ xs) ys h = each_rest P xs ys h.1

pub each_in : {A : Type 0} (P : A → Type 0) (xs : List A) (x : A) → x ∈ xs → Each P xs → P x
each_in P xs x m h = each_at P m.0 m.1 x (subst (Each P) m.2 h)

pub each_join : {A : Type 0} (P : A → Type 0) (xs ys : List A) → Each P xs → Each P ys → Each P (xs ++ ys)
each_join P [] ys h k = k
each_join P (x ∷ xs) ys h k = (h.0, each_join P xs ys h.1 k)

pub each_map : {A : Type 0} (P Q : A → Type 0) → ((x : A) → P x → Q x) → (xs : List A) → Each P xs → Each Q xs
each_map P Q f [] h = tt
each_map P Q f (x ∷ xs) h = (f x h.0, each_map P Q f xs h.1)

pub each_both : {A : Type 0} (P Q R : A → Type 0) → ((x : A) → P x → Q x → R x) → (xs : List A) → Each P xs → Each Q xs → Each R xs
each_both P Q R f [] h k = tt
each_both P Q R f (x ∷ xs) h k = (f x h.0 k.0, each_both P Q R f xs h.1 k.1)

pub each_from : {A : Type 0} (P : A → Type 0) (xs : List A) → ((x : A) → x ∈ xs → P x) → Each P xs
each_from P [] h = tt
each_from P (x ∷ xs) h = (h x (in_here x xs), each_from P xs (λ y m. h y (in_there y x xs m)))

-- Lists of one length that agree at every place are equal.
pub getD_equal : {A : Type 0} (d : A) (xs ys : List A) → length xs ≡ length ys → ((i : ℕ) → i < length xs → get_or xs i d ≡ get_or ys i d) → xs ≡ ys
getD_equal d [] [] e h = refl
getD_equal d [] (y ∷ ys) e h = absurd (omega arith)
getD_equal d (x ∷ xs) [] e h = absurd (omega arith)
getD_equal {A} d (x ∷ xs) (y ∷ ys) e h =
    ap {B = List A} (λ z. z ∷ xs) (h 0 (omega arith)) ∙ ap {B = List A} (λ l. y ∷ l) (getD_equal d xs ys (omega arith) (λ i l. h (suc i) (omega arith)))
