-- When a search for the first place ends, and with what.
use Rattle.std.proofs.Common.{◌≡◌, ℕ, zero, suc, ◌+◌, ◌<◌, ◌≤◌, Bool, true, false, get_or, Some, None, sym, refl, ◌∙◌, subst, inl, inr, arith}
use Rattle.std.proofs.iter.Yields.{fronts, nat_range_steps}
use Rattle.std.proofs.lemmas.Iterator.{first_from_Range, IsFirst-from_position, YieldsList-from_slice, YieldsList-from_zip, zips}
use Rattle.std.proofs.lemmas.Slice.Zip.{get_or-zip, length-zip}
use Rattle.std.specs.Fn.{CalledAt}
use Rattle.std.specs.Iterator.{YieldsThen}
use Rattle.std.specs.Iterator.Adapters.{zip_first, zip_second}
use Rattle.std.specs.Slice.Iter.{iter_rest}
use Rattle.std.specs.declared.iter.Zip.{Zip}
use Rattle.std.specs.declared.slice.Iter.{Iter}
use Rattle.std.specs.List.{zip, FoldsTo, AllWithin, HoldsAt}
use Rattle.std.specs.Prelude.{Option, MatchOption, List, length}
use Rattle.std.specs.declared.ops.Range.{Range}
use denote.Param.Members.{Mut, Called}
use denote.Ref.{Bor}
use Rattle.std.proofs.lemmas.Bool.{cases_Bool, cases_lt, cases_eq, cond-true, cond-false}
use Rattle.tasks.specs.Searches.{first_from, first_where}

pub from_found : (test : ℕ → Bool) (a n i : ℕ) → a ≤ i → i < a + n → ((k : ℕ) → a ≤ k → k < i → test k ≡ false) → test i ≡ true → first_from test a n ≡ Some i
from_found test a zero i h l before here = absurd (omega arith)
from_found test a (suc n) i h l before here =
    elim (cases_eq i a) [
      | inl e ↦ rw e (cond-true (test a) (Some a) (first_from test (suc a) n) (subst (λ z. test z ≡ true) e here))
      | inr ne ↦
          cond-false (test a) (Some a) (first_from test (suc a) n) (before a (omega arith) (omega arith))
          ∙ from_found test (suc a) n i (omega arith) (omega arith) (λ k low high. before k (omega arith) high) here
    ]

pub from_none : (test : ℕ → Bool) (a n : ℕ) → ((k : ℕ) → a ≤ k → k < a + n → test k ≡ false) → first_from test a n ≡ None
from_none test a zero every = refl
from_none test a (suc n) every =
    cond-false (test a) (Some a) (first_from test (suc a) n) (every a (omega arith) (omega arith))
    ∙ from_none test (suc a) n (λ k low high. every k (omega arith) (omega arith))

-- a place that passes, with none before it, is the first
pub first_found : (test : ℕ → Bool) (n i : ℕ) → i < n → ((k : ℕ) → k < i → test k ≡ false) → test i ≡ true → Some i ≡ first_where test n
first_found test n i h before here = sym (from_found test 0 n i (omega arith) (omega arith) (λ k _ l. before k l) here)

-- where none passes there is no first
pub first_none : (test : ℕ → Bool) (n : ℕ) → ((k : ℕ) → k < n → test k ≡ false) → None ≡ first_where test n
first_none test n every = sym (from_none test 0 n (λ k _ l. every k (omega arith)))

-- and where there is no first, none passes
pub none_from : (test : ℕ → Bool) (a n : ℕ) → first_from test a n ≡ None → (k : ℕ) → a ≤ k → k < a + n → test k ≡ false
none_from test a zero e k low high = absurd (omega arith)
none_from test a (suc n) e k low high =
    elim (cases_Bool (test a)) [
      | inl t ↦ let z : ◌≡◌ {A = ℕ} 0 1 = cc (cond-true (test a) (Some a) (first_from test (suc a) n) t) in absurd (omega arith)
      | inr f ↦
          let rest : first_from test (suc a) n ≡ None = sym (cond-false (test a) (Some a) (first_from test (suc a) n) f) ∙ e in
          elim (cases_eq k a) [
            | inl same ↦ rw same f
            | inr ne ↦ none_from test (suc a) n rest k (omega arith) (omega arith)
          ]
    ]

pub none_where : (test : ℕ → Bool) (n : ℕ) → first_where test n ≡ None → (k : ℕ) → k < n → test k ≡ false
none_where test n e k h = none_from test 0 n e k (omega arith) (omega arith)

-- a search that says where it ended
first_by : (test : ℕ → Bool) (a n : ℕ) (r : Option ℕ) → ((k : ℕ) → k < a → test k ≡ false) → MatchOption r ((k : ℕ) → a ≤ k → k < n → test k ≡ false) (λ i. (a ≤ i) × (i < n) × (test i ≡ true) × ((k : ℕ) → a ≤ k → k < i → test k ≡ false)) → r ≡ first_where test n
first_by test a n None below h = first_none test n (λ k l. elim (cases_lt k a) [ inl m ↦ below k m | inr m ↦ h k m l ])
first_by test a n (Some i) below h = first_found test n i h.1 (λ k l. elim (cases_lt k a) [ inl m ↦ below k m | inr m ↦ h.3 k m l ]) h.2

-- what `find` answers over the numbers from a to n, where its closure answers the test, and no number below a passes it
pub find_first_from : {F : Type 0} {g : Mut F (Bor ℕ × Unit {0}) Bool} (test : ℕ → Bool) (a n : ℕ) (u : Range ℕ) (f : F) {r : Option ℕ} → (xs : List ℕ) × (j : F) × YieldsThen nat_range_steps (record { start = a; end = n }) xs r u × FoldsTo (λ p x q. CalledAt g p x false q) f xs j × MatchOption r (Unit {0}) (λ x. (h : F) × CalledAt g j x true h) → ((x : ℕ) (q : F) → CalledAt g f x true q → test x ≡ true) → ((x : ℕ) (q : F) → CalledAt g f x false q → (q ≡ f) × (test x ≡ false)) → ((x : ℕ) → x < a → test x ≡ false) → r ≡ first_where test n
find_first_from {F} {g} test a n u f {r} ran passes fails below =
    first_by test a n r below (first_from_Range {g = g} (record { start = a; end = n }) u f r (λ i. test i ≡ true) (λ i. test i ≡ false) ran passes fails)

-- the same over all the numbers below n
pub find_first : {F : Type 0} {g : Mut F (Bor ℕ × Unit {0}) Bool} (test : ℕ → Bool) (n : ℕ) (u : Range ℕ) (f : F) {r : Option ℕ} → (xs : List ℕ) × (j : F) × YieldsThen nat_range_steps (record { start = 0; end = n }) xs r u × FoldsTo (λ p x q. CalledAt g p x false q) f xs j × MatchOption r (Unit {0}) (λ x. (h : F) × CalledAt g j x true h) → ((x : ℕ) (q : F) → CalledAt g f x true q → test x ≡ true) → ((x : ℕ) (q : F) → CalledAt g f x false q → (q ≡ f) × (test x ≡ false)) → r ≡ first_where test n
find_first {F} {g} test n u f ran passes fails = find_first_from {g = g} test 0 n u f ran passes fails (λ k h. absurd (omega arith))

-- what `position` answers over the pairs of two lists of one length
pub first_pair : {F : Type 0} {g : Mut F ((Bor ℕ × Bor ℕ) × Unit {0}) Bool} {s : Zip (Iter ℕ) (Iter ℕ)} (p : ℕ → ℕ → Bool) (ks vs : List ℕ) (u : Zip (Iter ℕ) (Iter ℕ)) (f : F) {r : Option ℕ} → (xs : List (Bor ℕ × Bor ℕ)) × (o : Option (Bor ℕ × Bor ℕ)) × (j : F) × YieldsThen (zips fronts fronts) s xs o u × FoldsTo (λ p x q. Called g p (x, tt) false q) f xs j × MatchOption o (r ≡ None) (λ x. (r ≡ Some (length xs)) × ((h : F) × Called g j (x, tt) true h)) → iter_rest (zip_first s) ≡ ks → iter_rest (zip_second s) ≡ vs → length vs ≡ length ks → ((x : Bor ℕ × Bor ℕ) (q : F) → Called g f (x, tt) true q → p x.0.now x.1.now ≡ true) → ((x : Bor ℕ × Bor ℕ) (q : F) → Called g f (x, tt) false q → (q ≡ f) × (p x.0.now x.1.now ≡ false)) → r ≡ first_where (λ i. p (get_or ks i 0) (get_or vs i 0)) (length ks)
first_pair {g = g} p ks vs u f {r} ran first second long passes fails =
    at_first r (IsFirst-from_position {g = g} u f r (λ x. p x.0 x.1 ≡ true) (λ x. p x.0 x.1 ≡ false) ran (YieldsList-from_zip (YieldsList-from_slice ks first) (YieldsList-from_slice vs second)) passes fails)
  where
    whole : length (zip ks vs) ≡ length ks
    whole = omega (arith, length-zip ks vs)

    read : (i : ℕ) → i < length ks → get_or (zip ks vs) i (0, 0) ≡ (get_or ks i 0, get_or vs i 0)
    read i h = get_or-zip ks vs i (0, 0) h (omega arith)

    at_first : (r : Option ℕ) → MatchOption r (AllWithin (λ x. p x.0 x.1 ≡ false) (zip ks vs) 0 (length (zip ks vs))) (λ i. (i < length (zip ks vs)) × HoldsAt (λ x. p x.0 x.1 ≡ true) (zip ks vs) i × AllWithin (λ x. p x.0 x.1 ≡ false) (zip ks vs) 0 i) → r ≡ first_where (λ i. p (get_or ks i 0) (get_or vs i 0)) (length ks)
    at_first None h = first_none _ (length ks) (λ k l. subst (λ (x : ℕ × ℕ). p x.0 x.1 ≡ false) (read k l) (h k (0, 0) (omega arith) (omega (arith, whole))))
    at_first (Some i) h =
        let l : i < length ks = omega (arith, h.0, whole) in
        first_found _ (length ks) i l (λ k m. subst (λ (x : ℕ × ℕ). p x.0 x.1 ≡ false) (read k (omega arith)) (h.2 k (0, 0) (omega arith) m))
        (subst (λ (x : ℕ × ℕ). p x.0 x.1 ≡ true) (read i l) (h.1 (0, 0)))
