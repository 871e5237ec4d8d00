-- The demand on a processor never falls as the stretch grows, and a stretch of t ticks admits at most t releases.
use Rattle.std.proofs.Common.{◌≡◌, ℕ, zero, suc, ◌+◌, ◌*◌, ◌<◌, ◌≤◌, true, false, cond, Some, None, ap, inl, inr, mul-le-mul_right, arith}
use Rattle.std.proofs.lemmas.Bool.{cases_lt, le-leb, lt-leb}
use Rattle.schedule.specs.declared.Part.{Part}
use Rattle.schedule.specs.Curves.{Curve}
use Rattle.schedule.specs.Layout.{System, demand, interferes}
use Rattle.plan.specs.Responses.{response_within, share, Least}
use Rattle.tasks.proofs.Searches.{from_found, from_none}
use Rattle.schedule.proofs.facts.Curves.{curve_mono}
use Rattle.schedule.proofs.facts.Lists.{total_le}

-- Each tick admits at most one release.
pub curve_most : (f : ℕ → ℕ) → Curve f → (a : ℕ) → f a ≤ a
curve_most f law zero = omega (arith, law.none)
curve_most f law (suc a) =
    let e : f (suc a) ≡ f (a + 1) = ap f (omega arith) in
    omega (arith, curve_most f law a, (law.steps a).1)

-- A curve at a length that the question tells apart, times a cost below 2^32.
pub share_bound : (f : ℕ → ℕ) → Curve f → (L cost r : ℕ) → L ≤ 1000000 → cost < 4294967296 → r ≡ f L → r * cost ≤ 4294967296000000
share_bound f law L cost r h k e =
    let le : r * cost ≤ 1000000 * cost = mul-le-mul_right cost (omega (arith, curve_most f law L, e)) in
    omega arith

-- Every stretch before t is too short.
abbrev pub ShortOf : System → Part → ℕ → Type 0
ShortOf sys q t = (u : ℕ) → 1 ≤ u → u < t → u < demand sys q u

module _ (sys : System) (q : Part) (laws : (i : ℕ) → Curve (sys.curve i)) where
  -- What one part asks for never falls.
  share_mono : (a b : ℕ) → a ≤ b → (p : Part) →
      share sys q a p ≤ share sys q b p
  share_mono a b h p =
      let le : sys.curve p.task a * p.cost ≤ sys.curve p.task b * p.cost = mul-le-mul_right p.cost (curve_mono (sys.curve p.task) (laws p.task).steps a b h) in
      elim (interferes sys q p) as (λ t. cond t (sys.curve p.task a * p.cost) 0 ≤ cond t (sys.curve p.task b * p.cost) 0) [ true ↦ le | false ↦ omega arith ]

  pub demand_mono : (a b : ℕ) → a ≤ b → demand sys q a ≤ demand sys q b
  demand_mono a b h = omega (arith, total_le (share sys q a) (share sys q b) sys.parts (λ p m. share_mono a b h p))

  -- Where t is too short, so is every stretch up to what it asks for.
  pub short_on : (t : ℕ) → ShortOf sys q t → t < demand sys q t → ShortOf sys q (demand sys q t)
  short_on t before short u some h = elim (cases_lt u t) [
    | inl l ↦ before u some l
    | inr g ↦ omega (arith, demand_mono t u g)
  ]

  -- A stretch that suffices, where every shorter one is too short, is the response time.
  pub found : (limit t : ℕ) → 1 ≤ t → t ≤ limit → demand sys q t ≤ t → ShortOf sys q t → (response_within sys q limit ≡ Some t) × Least sys q limit (Some t)
  found limit t some in_limit enough before = (
    from_found _ 1 limit t some (omega arith) (λ v a b. lt-leb _ _ (before v a b)) (le-leb _ _ enough),
    ((some, in_limit, enough), λ u h s. omega (arith, before u s.0 h, s.2)),
  )

  -- Where every stretch up to the limit is too short, there is none.
  pub not_found : (limit t : ℕ) → limit < t → ShortOf sys q t → (response_within sys q limit ≡ None) × Least sys q limit None
  not_found limit t past before =
      (from_none _ 1 limit (λ v a b. lt-leb _ _ (before v a (omega arith))), λ u s. omega (arith, before u s.0 (omega arith), s.2))
