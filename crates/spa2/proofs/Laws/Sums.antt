-- The costs and the loads of parts and pieces, with one part more.
use Rattle.std.proofs.Common.{◌≡◌, ℕ, ◌+◌, ◌-◌, ◌<◌, ◌≤◌, Bool, true, false, cond, not, ◌&&◌, eqb, leb, ◌⊎◌, List, [], ◌∷◌, ◌++◌, length, get_or, set, sym, refl, ap, ◌∙◌, subst, inl, inr, arith, get_or-set_other, get_or-set_same}
use Rattle.std.proofs.lemmas.Bool.{cond_both, cases_eq, ne_eqb, leb-false}
use Rattle.schedule.specs.declared.Part.{Part}
use Rattle.schedule.specs.Lists.{total}
use Rattle.schedule.specs.Layout.{work_of}
use Rattle.spa2.specs.declared.piece.Piece.{Piece}
use Rattle.spa2.specs.declared.state.Processor.{Processor}
use Rattle.spa2.specs.Laws.{load_share, load_on}
use Rattle.spa2.specs.Loads.{load_of}
use Rattle.spa2.specs.Placing.{Tasks, placed, with_cut}
use Rattle.spa2.proofs.Laws.Each.{total_push}
use Rattle.spa2.proofs.Rounding.{load_at_most}
use Rattle.spa2.proofs.Scans.{idle}

-- What the pieces hold of task i.
abbrev pub piece_work : List Piece → ℕ → ℕ
piece_work ws i = total (λ x. cond (eqb x.task i) x.cost 0) ws

pub work_push : (ps : List Part) (r : Part) (i : ℕ) → work_of (ps ++ (r ∷ [])) i ≡ work_of ps i + cond (eqb r.task i) r.cost 0
work_push ps r i = total_push (λ p. cond (eqb p.task i) p.cost 0) ps r

-- A part listed where it is not empty adds its cost.
pub work_cut : (task p c : ℕ) (ps : List Part) (i : ℕ) → work_of (with_cut task p c ps) i ≡ work_of ps i + cond (eqb task i) c 0
work_cut task p c ps i =
    cond_both (leb 1 c) (ps ++ (placed task p c ∷ [])) ps (λ qs. work_of qs i ≡ work_of ps i + cond (eqb task i) c 0)
    (λ e. work_push ps (placed task p c) i)
    (λ e. cond_both (eqb task i) c 0 (λ k. work_of ps i ≡ work_of ps i + k) (λ _. omega (arith, leb-false 1 c e)) (λ _. omega arith))

-- A cost is split in two.
pub split_share : (b : Bool) (x c : ℕ) → c ≤ x → cond b c 0 + cond b (x - c) 0 ≡ cond b x 0
split_share true x c h = omega arith
split_share false x c h = omega arith

-- What a part adds to a load is at most its own load, and nothing elsewhere.
pub share_most : (t : Tasks) (first : ℕ → Bool) (p : ℕ) (q : Part) → load_share t first p q ≤ load_of q.cost (t.period q.task)
share_most t first p q =
    cond_both (eqb q.processor p && not (first q.task)) (load_of q.cost (t.period q.task)) 0 (λ k. k ≤ load_of q.cost (t.period q.task))
    (λ _. omega arith) (λ _. omega arith)

pub share_elsewhere : (t : Tasks) (first : ℕ → Bool) (p : ℕ) (q : Part) → (q.processor ≡ p → ⊥) → load_share t first p q ≡ 0
share_elsewhere t first p q h =
    ap (λ (b : Bool). cond (b && not (first q.task)) (load_of q.cost (t.period q.task)) 0) (ne_eqb q.processor p h)

pub share_first : (t : Tasks) (first : ℕ → Bool) (p : ℕ) (q : Part) → first q.task ≡ true → load_share t first p q ≡ 0
share_first t first p q h = go (eqb q.processor p) (first q.task) h
  where
    go : (a b : Bool) → b ≡ true → cond (a && not b) (load_of q.cost (t.period q.task)) 0 ≡ 0
    go a true e = cond_both (a && false) (load_of q.cost (t.period q.task)) 0 (λ k. k ≡ 0) (λ z. absurd (never a z)) (λ _. refl)
      where
        never : (a : Bool) → (a && false) ≡ true → ⊥
        never true z = let n : ◌≡◌ {A = ℕ} 0 1 = cc in omega arith
        never false z = let n : ◌≡◌ {A = ℕ} 0 1 = cc in omega arith
    go a false e = absurd (let n : ◌≡◌ {A = ℕ} 0 1 = cc in omega arith)

-- Each processor is loaded with its parts at least, and up to the threshold unless only a task placed beforehand is there.
abbrev pub Within : ℕ → ℕ → ℕ → Type 0
Within theta shared load = (shared ≤ load) × ((shared ≡ 0) ⊎ (load ≤ theta))

abbrev pub Loaded : Tasks → (ℕ → Bool) → ℕ → List Processor → List Part → Type 0
Loaded t first theta xs ps = (p : ℕ) → p < length xs → Within theta (load_on t first p ps) (get_or xs p idle).load

pub within_most : (theta shared load : ℕ) → Within theta shared load → shared ≤ theta
within_most theta shared load h = elim h.1 [ inl e ↦ omega arith | inr l ↦ omega (arith, h.0) ]

-- One processor gets a load, up to the threshold, with a part that adds no more.
pub loaded_push : (t : Tasks) (first : ℕ → Bool) (theta : ℕ) (xs : List Processor) (n : ℕ) (y : Processor) (ps : List Part) (r : Part) →
    r.processor ≡ n → y.load ≡ (get_or xs n idle).load + load_of r.cost (t.period r.task) → y.load ≤ theta →
    Loaded t first theta xs ps → (p : ℕ) → p < length xs → Within theta (load_on t first p (ps ++ (r ∷ []))) (get_or (set xs n y) p idle).load
loaded_push t first theta xs n y ps r er ey le h p l =
    let more = total_push (load_share t first p) ps r in
    elim (cases_eq p n) [
      | inl same ↦
          let here : (get_or (set xs n y) p idle).load ≡ y.load =
          ap (λ (k : ℕ). (get_or (set xs n y) k idle).load) same ∙ ap (λ (x : Processor). x.load) (get_or-set_same xs n y idle (subst (λ (k : ℕ). k < length xs) same l)) in
          let was : (get_or xs p idle).load ≡ (get_or xs n idle).load = ap (λ (k : ℕ). (get_or xs k idle).load) same in
          (omega (arith, more, here, was, (h p l).0, share_most t first p r, ey), inr (omega (arith, here, le)))
      | inr other ↦
          let there : (get_or (set xs n y) p idle).load ≡ (get_or xs p idle).load = ap (λ (x : Processor). x.load) (get_or-set_other xs n p y idle other) in
          let none = share_elsewhere t first p r (λ e. other (sym e ∙ er)) in
          (omega (arith, more, there, none, (h p l).0), elim (h p l).1 [ inl z ↦ inl (omega (arith, more, none, z)) | inr z ↦ inr (omega (arith, there, z)) ])
    ]

-- One processor keeps its load, and no part is listed.
pub loaded_kept : (t : Tasks) (first : ℕ → Bool) (theta : ℕ) (xs : List Processor) (n : ℕ) (y : Processor) (ps : List Part) →
    y.load ≡ (get_or xs n idle).load → Loaded t first theta xs ps → (p : ℕ) → p < length xs → Within theta (load_on t first p ps) (get_or (set xs n y) p idle).load
loaded_kept t first theta xs n y ps ey h p l =
    let same : (get_or (set xs n y) p idle).load ≡ (get_or xs p idle).load = elim (cases_eq p n) [
      | inl e ↦
          ap (λ (k : ℕ). (get_or (set xs n y) k idle).load) e
          ∙ (ap (λ (x : Processor). x.load) (get_or-set_same xs n y idle (subst (λ (k : ℕ). k < length xs) e l)) ∙ (ey ∙ sym (ap (λ (k : ℕ). (get_or xs k idle).load) e)))
      | inr other ↦ ap (λ (x : Processor). x.load) (get_or-set_other xs n p y idle other)
    ] in
    subst (λ (k : ℕ). Within theta (load_on t first p ps) k) (sym same) (h p l)

-- A cost of 0 is no load.
pub load_none : (c T : ℕ) → 1 ≤ T → c ≡ 0 → load_of c T ≡ 0
load_none c T p e = let none = load_at_most c T 0 p (omega arith) in omega (arith, none)
