-- Bounded searches, the response times of a plan in time, and the part that has none.
use Rattle.std.proofs.Common.{◌≡◌, ℕ, zero, suc, ◌+◌, ◌-◌, ◌<◌, ◌≤◌, ◌⊎◌, List, [], ◌∷◌, sym, ap, subst, inl, inr, arith}
use Rattle.std.proofs.lemmas.Bool.{cases_eq, cases_lt}
use Rattle.schedule.specs.declared.Part.{Part}
use Rattle.schedule.specs.Lists.{◌∈◌}
use Rattle.schedule.specs.Layout.{System, demand, Suffices, Response, InTime}
use Rattle.schedule.proofs.facts.Lists.{in_here, in_there, in_none, in_cases}

-- Some number below n with P, or all with Q.
pub search_below : (P Q : ℕ → Type 0) → ((k : ℕ) → P k ⊎ Q k) → (n : ℕ) → ((k : ℕ) × (k < n) × P k) ⊎ ((k : ℕ) → k < n → Q k)
search_below P Q dec zero = inr (λ k h. absurd (omega arith))
search_below P Q dec (suc n) =
    elim (search_below P Q dec n) [
      | inl f ↦ inl (f.0, omega arith, f.2)
      | inr all ↦ elim (dec n) [
        | inl p ↦ inl (n, omega arith, p)
        | inr q ↦ inr (λ k h. elim (cases_eq k n) [
          | inl e ↦ subst Q (sym e) q
          | inr ne ↦ all k (omega arith)
        ])
      ]
    ]

-- All of a list with P, or some with Q.
pub search_list : {A : Type 0} (P Q : A → Type 0) → ((x : A) → P x ⊎ Q x) → (xs : List A) → ((x : A) → x ∈ xs → P x) ⊎ ((x : A) × (x ∈ xs) × Q x)
search_list P Q dec [] = inl (λ x m. absurd (in_none x m))
search_list P Q dec (y ∷ ys) =
    elim (dec y) [
      | inr q ↦ inr (y, in_here y ys, q)
      | inl p ↦ elim (search_list P Q dec ys) [
        | inr f ↦ inr (f.0, in_there f.0 y ys f.1, f.2)
        | inl all ↦ inl (λ x m. elim (in_cases x y ys m) [
          | inl e ↦ subst P (sym e) p
          | inr n ↦ all x n
        ])
      ]
    ]

-- The least number with P that a bounded search finds.
pub least : (P Q : ℕ → Type 0) → ((k : ℕ) → P k ⊎ Q k) → ((k : ℕ) → P k → Q k → ⊥) → (n : ℕ) → P n →
    (k : ℕ) × (P k × ((u : ℕ) → u < k → P u → ⊥))
least P Q dec apart n p =
    elim (first (suc n)) [
      | inl f ↦ f
      | inr all ↦ absurd (apart n p (all n (omega arith)))
    ]
  where
    first : (m : ℕ) → ((k : ℕ) × (P k × ((u : ℕ) → u < k → P u → ⊥))) ⊎ ((k : ℕ) → k < m → Q k)
    first zero = inr (λ k h. absurd (omega arith))
    first (suc m) =
        elim (first m) [
          | inl f ↦ inl f
          | inr all ↦ elim (dec m) [
            | inl h ↦ inl (m, (h, (λ u l z. apart u z (all u l))))
            | inr h ↦ inr (λ k l. elim (cases_eq k m) [
              | inl e ↦ subst Q (sym e) h
              | inr ne ↦ all k (omega arith)
            ])
          ]
        ]

-- A count that is below a bound at first and not at the end crosses it in some step.
pub crosses : (f : ℕ → ℕ) (b a n : ℕ) → f a < b → b ≤ f (a + n) → (k : ℕ) × (k < n) × (f (a + k) < b) × (b ≤ f (suc (a + k)))
crosses f b a zero h h' = absurd (let e : f (a + 0) ≡ f a = ap f (omega arith) in omega arith)
crosses f b a (suc n) h h' =
    elim (cases_lt (f (a + n)) b) [
      | inl l ↦ (n, omega arith, l, (let e : f (a + suc n) ≡ f (suc (a + n)) = ap f (omega arith) in omega arith))
      | inr g ↦ let r = crosses f b a n h g in (r.0, omega arith, r.2, r.3)
    ]

-- No time up to the window suffices.
abbrev pub Overloaded : System → Part → Type 0
Overloaded sys q = (t : ℕ) → 1 ≤ t → t ≤ q.window → t < demand sys q t

pub suffices_or : (sys : System) (q : Part) → ((t : ℕ) × Suffices sys q t) ⊎ Overloaded sys q
suffices_or sys q =
    elim (search_below (λ k. demand sys q (suc k) ≤ suc k) (λ k. suc k < demand sys q (suc k)) (λ k. swap (cases_lt (suc k) (demand sys q (suc k)))) q.window) [
      | inl f ↦ inl (suc f.0, (omega arith, omega arith, omega (arith, f.2)))
      | inr all ↦ inr (λ t h h'. let e : suc (t - 1) ≡ t = omega arith in subst (λ (x : ℕ). x < demand sys q x) e (all (t - 1) (omega arith)))
    ]
  where
    swap : {A B : Type 0} → A ⊎ B → B ⊎ A
    swap (inl a) = inr a
    swap (inr b) = inl b

pub overloaded_part : (sys : System) → (InTime sys → ⊥) → (q : Part) × (q ∈ sys.parts) × Overloaded sys q
overloaded_part sys no_times =
    elim (search_list (λ q. (t : ℕ) × Suffices sys q t) (Overloaded sys) (suffices_or sys) sys.parts) [
      | inl all ↦ absurd (no_times all)
      | inr f ↦ f
    ]

-- Where some time suffices for a part, there is a least one: its response time.
pub response : (sys : System) (q : Part) (t : ℕ) → Suffices sys q t → (u : ℕ) × Response sys q u
response sys q t s = least (Suffices sys q) (λ k. Suffices sys q k → ⊥) test (λ k h n. n h) t s
  where
    test : (k : ℕ) → Suffices sys q k ⊎ (Suffices sys q k → ⊥)
    test k = elim (cases_lt k 1) [
      | inl a ↦ inr (λ h. omega (arith, h.0))
      | inr a ↦ elim (cases_lt q.window k) [
        | inl b ↦ inr (λ h. omega (arith, h.1))
        | inr b ↦ elim (cases_lt k (demand sys q k)) [
          | inl c ↦ inr (λ h. omega (arith, h.2))
          | inr c ↦ inl (a, b, omega arith)
        ]
      ]
    ]

-- In a plan in time each part has a response time.
pub responses : (sys : System) → InTime sys → (q : Part) → q ∈ sys.parts → (t : ℕ) × Response sys q t
responses sys timely q m = let w = timely q m in response sys q w.0 w.1
