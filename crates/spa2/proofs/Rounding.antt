-- Loads are rounded up and cuts are rounded down, so that a cut never loads a processor beyond its threshold.
use Rattle.std.proofs.Common.{◌≡◌, ℕ, ◌+◌, ◌-◌, ◌*◌, ◌/◌, ◌%◌, ◌<◌, ◌≤◌, min, ap, inl, inr, mul-le-mul_right, mod-lt, add-mul, div-add-mod', le-div_iff_mul-le, div-mul-le_self, arith}
use Rattle.std.proofs.lemmas.Bool.{cases_lt, cases_order, cases_eq}
use Rattle.spa2.specs.Loads.{load_of, cut_of}

-- A quotient rounded up.
abbrev up : ℕ → ℕ → ℕ
up x T = x / T + min 1 (x % T)

up_bounded : (x T d : ℕ) → 1 ≤ T → x ≤ d * T → up x T ≤ d
up_bounded x T d p h =
    let whole = div-add-mod' x T in
    let rest = mod-lt x {m = T} p in
    elim (cases_order (x / T) d) [
      | inl e ↦ let same : x / T * T ≡ d * T = ap (λ (q : ℕ). q * T) e in omega arith
      | inr o ↦ elim o [
        | inl l ↦ omega arith
        | inr g ↦ absurd (let more : (d + 1) * T ≤ x / T * T = let le : d + 1 ≤ x / T = omega arith in mul-le-mul_right T le in omega (arith, add-mul d 1 T))
      ]
    ]

up_bounds : (x T d : ℕ) → 1 ≤ T → up x T ≤ d → x ≤ d * T
up_bounds x T d p h =
    let whole = div-add-mod' x T in
    let rest = mod-lt x {m = T} p in
    elim (cases_eq (x % T) 0) [
      | inl e ↦ let more : x / T * T ≤ d * T = let le : x / T ≤ d = omega arith in mul-le-mul_right T le in omega arith
      | inr o ↦ let more : (x / T + 1) * T ≤ d * T = let le : x / T + 1 ≤ d = omega arith in mul-le-mul_right T le in omega (arith, add-mul (x / T) 1 T)
    ]

-- A load is at most d exactly where the cost, in millionths of a tick, fits d periods.
pub load_at_most : (cost T d : ℕ) → 1 ≤ T → cost * 1000000 ≤ d * T → load_of cost T ≤ d
load_at_most cost T d p h = up_bounded (cost * 1000000) T d p h

pub load_most : (cost T d : ℕ) → 1 ≤ T → load_of cost T ≤ d → cost * 1000000 ≤ d * T
load_most cost T d p h = up_bounds (cost * 1000000) T d p h

-- A cut loads its processor no further than the threshold.
pub cut_fits : (theta load T : ℕ) → 1 ≤ T → load_of (cut_of theta load T) T ≤ theta - load
cut_fits theta load T p = load_at_most (cut_of theta load T) T (theta - load) p (div-mul-le_self ((theta - load) * T) 1000000)

-- A piece that does not fit whole is more than its cut, so that something is left of it.
pub cut_leaves : (theta load cost T : ℕ) → 1 ≤ T → theta < load + load_of cost T → 1 ≤ load_of cost T → cut_of theta load T < cost
cut_leaves theta load cost T p h one =
    elim (cases_lt (cut_of theta load T) cost) [
      | inl l ↦ l
      | inr g ↦ absurd (
          let room : cost * 1000000 ≤ (theta - load) * T = (le-div_iff_mul-le {k = 1000000} {x = cost} {y = (theta - load) * T} (omega arith)).0 g in
          let fits = load_at_most cost T (theta - load) p room in
          omega arith)
    ]

-- A cost of 1 or more is a load of 1 or more.
pub load_some : (cost T : ℕ) → 1 ≤ T → 1 ≤ cost → 1 ≤ load_of cost T
load_some cost T p h =
    elim (cases_lt 0 (load_of cost T)) [ inl l ↦ l | inr g ↦ absurd (let none = load_most cost T 0 p g in omega arith) ]

-- A piece that does not fit whole is at least its cut.
pub cut_within : (theta load cost T : ℕ) → 1 ≤ T → theta < load + load_of cost T → cut_of theta load T ≤ cost
cut_within theta load cost T p h =
    elim (cases_lt cost (cut_of theta load T)) [
      | inl l ↦ absurd (
          let room : (cost + 1) * 1000000 ≤ (theta - load) * T = (le-div_iff_mul-le {k = 1000000} {x = cost + 1} {y = (theta - load) * T} (omega arith)).0 (omega arith) in
          let fits = load_at_most cost T (theta - load) p (omega arith) in
          let some : 1 ≤ theta - load = elim (cases_eq (theta - load) 0) [
            | inl e ↦ absurd (let none : (theta - load) * T ≡ 0 * T = ap (λ (d : ℕ). d * T) e in omega arith)
            | inr n ↦ omega arith
          ] in
          omega arith)
      | inr g ↦ g
    ]
