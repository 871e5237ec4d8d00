-- What a search over the parts finds is the first place whose part passes.
use Rattle.std.proofs.Common.{◌≡◌, ℕ, suc, ◌+◌, ◌<◌, ◌≤◌, Bool, true, false, ◌||◌, cond, List, [], ◌∷◌, length, take, is_some, Some, None, Option, sym, refl, ap, ◌∙◌, subst, arith}
use Rattle.std.proofs.iter.Yields.{fronts}
use Rattle.std.proofs.lemmas.Iterator.{YieldsList-from_slice}
use Rattle.std.proofs.lemmas.List.{get_or-take, length-take-le}
use Rattle.std.proofs.lemmas.Iterator.Adapters.{position_from-zero}
use Rattle.std.proofs.lemmas.Iterator.Search.{position_from_yields_List, any_from_yields_List}
use Rattle.std.specs.Fn.{Called}
use Rattle.std.specs.Iterator.{YieldsThen}
use Rattle.std.specs.List.{FoldsTo, position_from, list_any}
use Rattle.std.specs.Option.{MatchOption}
use Rattle.std.specs.Slice.Iter.{iter_rest}
use Rattle.std.specs.declared.slice.Iter.{Iter}
use denote.Param.Members.{Mut}
use denote.Ref.{Bor}
use Rattle.schedule.specs.declared.Part.{Part}
use Rattle.tasks.specs.Searches.{first_from, first_where}
use Rattle.plan.specs.Checks.{part_at}

-- a search from place i, over a list of which `at` tells the tests from there on
from_head : (at : ℕ → Bool) (test : Part → Bool) (ps : List Part) (i : ℕ) → ((k : ℕ) → k < length ps → at (i + k) ≡ test (part_at ps k)) → position_from test i ps ≡ first_from at i (length ps)
from_head at test [] i same = refl
from_head at test (p ∷ ps) i same =
    let next : i + 1 ≡ suc i = omega arith in
    let here : at i ≡ test p = let e : i + 0 ≡ i = omega arith in subst (λ j. at j ≡ test p) e (same 0 (omega arith)) in
    let rest = from_head at test ps (suc i) (λ k h. let e : i + suc k ≡ suc i + k = omega arith in subst (λ j. at j ≡ test (part_at ps k)) e (same (suc k) (omega arith))) in
    cc

-- some element passes where there is a first that does
some_passes : (test : Part → Bool) (ps : List Part) (i : ℕ) → list_any test ps ≡ is_some (position_from test i ps)
some_passes test [] i = refl
some_passes test (p ∷ ps) i = elim (test p) as (λ b. (b || list_any test ps) ≡ is_some (cond b (Some i) (position_from test (i + 1) ps))) [
  | true ↦ refl
  | false ↦ some_passes test ps (i + 1)
]

-- what `position` answers over the parts, where its closure computes the test
pub position_first : {F : Type 0} {g : Mut F (Bor Part × Unit {0}) Bool} (test : Part → Bool) (ps : List Part) {s : Iter Part} (u : Iter Part) (f : F) {r : Option ℕ} →
    (xs : List (Bor Part)) × (o : Option (Bor Part)) × (j : F) × YieldsThen fronts s xs o u × FoldsTo (λ p x q. Called g p (x, tt) false q) f xs j × MatchOption o (r ≡ None) (λ x. (r ≡ Some (length xs)) × ((h : F) × Called g j (x, tt) true h)) →
    iter_rest s ≡ ps → ((x : Bor Part) (b : Bool) (q : F) → Called g f (x, tt) b q → (q ≡ f) × (b ≡ test x.now)) →
    r ≡ first_where (λ k. test (part_at ps k)) (length ps)
position_first {F} {g} test ps {s} u f {r} ran whole says =
    position_from_yields_List {g = g} test u f r ran (YieldsList-from_slice ps whole) says
    ∙ position_from-zero test ps ∙ from_head (λ k. test (part_at ps k)) test ps 0 (λ k h. ap (λ j. test (part_at ps j)) (omega arith))

-- what `any` answers over the parts before place n
pub any_first : {F : Type 0} {g : Mut F (Bor Part × Unit {0}) Bool} (test : Part → Bool) (ps : List Part) (n : ℕ) {s : Iter Part} (u : Iter Part) (f : F) {r : Bool} →
    (xs : List (Bor Part)) × (o : Option (Bor Part)) × (j : F) × YieldsThen fronts s xs o u × FoldsTo (λ p x q. Called g p (x, tt) false q) f xs j × MatchOption o (r ≡ false) (λ x. (r ≡ true) × ((h : F) × Called g j (x, tt) true h)) →
    iter_rest s ≡ take n ps → n ≤ length ps → ((x : Bor Part) (b : Bool) (q : F) → Called g f (x, tt) b q → (q ≡ f) × (b ≡ test x.now)) →
    r ≡ is_some (first_where (λ k. test (part_at ps k)) n)
any_first {F} {g} test ps n {s} u f {r} ran whole within says =
    any_from_yields_List {g = g} test u f r ran (YieldsList-from_slice (take n ps) whole) says
    ∙ some_passes test (take n ps) 0
    ∙ ap (λ (o : Option ℕ). is_some o) (from_head (λ k. test (part_at ps k)) test (take n ps) 0 (λ k h. within_front k (omega (arith, h, long))) ∙ ap (first_where (λ k. test (part_at ps k))) long)
  where
    long : length (take n ps) ≡ n
    long = length-take-le n ps within

    within_front : (k : ℕ) → k < n → test (part_at ps (0 + k)) ≡ test (part_at (take n ps) k)
    within_front k h = ap test (ap (part_at ps) (omega arith) ∙ sym (get_or-take n ps k (record { task = 0; processor = 0; cost = 0; window = 0 }) h))
