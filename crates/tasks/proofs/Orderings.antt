-- The laws of a priority order, the tasks of a set under them, and their ranks.
use Rattle.std.proofs.Common.{◌≡◌, ℕ, zero, suc, ◌+◌, ◌<◌, ◌≤◌, Bool, true, false, List, ◌∷◌, T, sym, refl, ap, ◌∙◌, subst, inl, inr, arith}
use Rattle.std.proofs.lemmas.Bool.{cases_Bool, cases_eq}
use Rattle.std.proofs.lemmas.List.Recursion.{is_sum_by}
use Rattle.std.specs.List.{range_with_len, sum_by}
use Rattle.schedule.proofs.facts.Lists.{from_T, to_T, total_lt, in_below, below_in, one_if_le}
use Rattle.schedule.specs.Lists.{◌∈◌, total, up_from, below, one_if}
use Rattle.schedule.specs.Orders.{Ordered}
use Rattle.tasks.specs.Numbers.{as_numbered}
use Rattle.tasks.specs.Orders.{Told, LawfulOrder, as_asked}
use Rattle.tasks.specs.Ranks.{precedes, Ranked}
use Rattle.tasks.specs.Sets.{count_of, key_of}
use Rattle.tasks.specs.contracts.order.PriorityOrder.TheBound.{Met}
use Rattle.tasks.specs.declared.order.TaskKey.{TaskKey}
use Rattle.tasks.specs.declared.set.TaskSet.{TaskSet}
use Rattle.tasks.proofs.Sets.{period_scaled}

-- The four laws, as every bound `O: PriorityOrder` brings them.
pub lawful_order : {M 𝓤 𝓛 𝓜 𝓡 env O has dict : _} → Met {M = M} {𝓤 = 𝓤} 𝓛 𝓜 𝓡 env O has dict → (o : O.Denot) → LawfulOrder (has.before o)
lawful_order met o = record {
  irreflexive = met.irreflexive o;
  connected = met.connected o;
  asymmetric = met.asymmetric o;
  transitive = met.transitive o;
}

module _ (set : TaskSet) (before : TaskKey → TaskKey → Bool) (law : LawfulOrder before) where
  told : (i : ℕ) → Told (as_asked (key_of set i))
  told i = (omega arith, (period_scaled set i).0, (period_scaled set i).1)

  apart_numbers : (a b : ℕ) → a < count_of set → b < count_of set → (a ≡ b → ⊥) → as_numbered a ≡ as_numbered b → ⊥
  apart_numbers a b ha hb ne e = let few = set.few in ne (omega arith)

  irreflexive : (a : ℕ) → T (precedes before set a a) → ⊥
  irreflexive a t = law.irreflexive _ (told a) t

  asymmetric : (a b : ℕ) → a < count_of set → b < count_of set → T (precedes before set a b) → T (precedes before set b a) → ⊥
  asymmetric a b ha hb x y = elim (cases_eq a b) [
    | inl e ↦ irreflexive a (subst (λ (k : ℕ). T (precedes before set a k)) (sym e) x)
    | inr ne ↦ law.asymmetric _ _ (told a) (told b) (apart_numbers a b ha hb ne) x y
  ]

  -- The laws on the numbers of the set's tasks, with no word on which differ.
  pub ordered : Ordered (count_of set) (precedes before set)
  ordered = record {
    irreflexive = λ a ha t. irreflexive a t;
    connected = λ a b ha hb ne. law.connected _ _ (told a) (told b) (apart_numbers a b ha hb ne);
    asymmetric = asymmetric;
    transitive = λ a b c ha hb hc x y. elim (cases_eq a b) [
      | inl e ↦ absurd (irreflexive a (subst (λ (k : ℕ). T (precedes before set a k)) (sym e) x))
      | inr ab ↦ elim (cases_eq b c) [
        | inl e ↦ absurd (irreflexive b (subst (λ (k : ℕ). T (precedes before set b k)) (sym e) y))
        | inr bc ↦ elim (cases_eq a c) [
          | inl e ↦ absurd (asymmetric a b ha hb x (subst (λ (k : ℕ). T (precedes before set b k)) (sym e) y))
          | inr ac ↦ law.transitive _ _ _ (told a) (told b) (told c) (apart_numbers a b ha hb ab) (apart_numbers b c hb hc bc) (apart_numbers a c ha hc ac) x y
        ]
      ]
    ];
  }

-- Sums over the numbers below n.
more_from : (f : ℕ → ℕ) (a n : ℕ) → total f (up_from a (suc n)) ≡ total f (up_from a n) + f (a + n)
more_from f a zero = let e : f (a + 0) ≡ f a = ap f (omega arith) in omega arith
more_from f a (suc n) = let e : f (a + suc n) ≡ f (suc a + n) = ap f (omega arith) in omega (arith, more_from f (suc a) n)

pub total_more : (f : ℕ → ℕ) (n : ℕ) → total f (below (n + 1)) ≡ total f (below n) + f n
total_more f n =
    let e : n + 1 ≡ suc n = omega arith in
    let d : f (0 + n) ≡ f n = ap f (omega arith) in
    rw e (omega (arith, more_from f 0 n))

numbers_from : (a n : ℕ) → range_with_len a n ≡ up_from a n
numbers_from a zero = refl
numbers_from a (suc n) = let e : a + 1 ≡ suc a = omega arith in rw e (ap (λ (xs : List ℕ). a ∷ xs) (numbers_from (suc a) n))

-- the sum over the numbers of a range
pub sum_below : (f : ℕ → ℕ) (n : ℕ) → sum_by f (range_with_len 0 n) ≡ total f (below n)
sum_below f n = sym (is_sum_by (total f) f refl (λ _ _. refl) (range_with_len 0 n)) ∙ ap (total f) (numbers_from 0 n)

ones : (a n : ℕ) → total (λ _. 1) (up_from a n) ≡ n
ones a zero = refl
ones a (suc n) = omega (arith, ones (suc a) n)

-- Ranks under an order of the numbers below n.
module _ (n : ℕ) (before : ℕ → ℕ → Bool) (o : Ordered n before) where
  abbrev rank : ℕ → ℕ
  rank i = total (λ j. one_if (before j i)) (below n)

  not_itself : (a : ℕ) → a < n → before a a ≡ false
  not_itself a ha = elim (cases_Bool (before a a)) [ inl e ↦ absurd (o.irreflexive a ha (to_T (before a a) e)) | inr e ↦ e ]

  rank_rises : (a b : ℕ) → a < n → b < n → T (before a b) → rank a < rank b
  rank_rises a b ha hb ab = total_lt (λ j. one_if (before j a)) (λ j. one_if (before j b)) (below n) a (in_below a n ha) each here
    where
      each : (j : ℕ) → j ∈ below n → one_if (before j a) ≤ one_if (before j b)
      each j m =
          elim (cases_Bool (before j a)) [
            | inl e ↦
                let k : before j b ≡ true = from_T (before j b) (o.transitive j a b (below_in j n m) ha hb (to_T (before j a) e) ab) in
                rw (e, k) (omega arith)
            | inr e ↦ rw e (omega arith)
          ]

      here : one_if (before a a) < one_if (before a b)
      here = rw (not_itself a ha, from_T (before a b) ab) (omega arith)

  rank_falls : (a b : ℕ) → a < n → b < n → rank a < rank b → before a b ≡ true
  rank_falls a b ha hb r =
      elim (cases_eq a b) [
        | inl e ↦ absurd (let k : rank a ≡ rank b = ap rank e in omega arith)
        | inr ne ↦ elim (o.connected a b ha hb ne) [
          | inl t ↦ from_T (before a b) t
          | inr t ↦ absurd (omega (arith, rank_rises b a hb ha t))
        ]
      ]

  rank_apart : (a b : ℕ) → a < n → b < n → rank a ≡ rank b → a ≡ b
  rank_apart a b ha hb r =
      elim (cases_eq a b) [
        | inl e ↦ e
        | inr ne ↦ elim (o.connected a b ha hb ne) [
          | inl t ↦ absurd (omega (arith, rank_rises a b ha hb t))
          | inr t ↦ absurd (omega (arith, rank_rises b a hb ha t))
        ]
      ]

  rank_within : (a : ℕ) → a < n → rank a < n
  rank_within a ha =
      omega (
        arith,
        ones 0 n,
        total_lt (λ j. one_if (before j a)) (λ _. 1) (below n) a (in_below a n ha) (λ j _. one_if_le (before j a)) (rw (not_itself a ha) (omega arith)),
      )

pub all_ranked : (set : TaskSet) (before : TaskKey → TaskKey → Bool) → LawfulOrder before → Ranked before set
all_ranked set before law =
    let o = ordered set before law in
    record {
      tells = λ a b ha hb. (
        (λ e. rank_rises (count_of set) (precedes before set) o a b ha hb (to_T (precedes before set a b) e)),
        rank_falls (count_of set) (precedes before set) o a b ha hb,
      );
      apart = rank_apart (count_of set) (precedes before set) o;
      within = rank_within (count_of set) (precedes before set) o;
    }
