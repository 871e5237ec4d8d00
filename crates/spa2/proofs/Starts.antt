-- From an empty start to the placed parts, and from those to the plan.
use Rattle.std.proofs.Common.{◌≡◌, ℕ, ◌+◌, ◌-◌, ◌≤◌, Bool, cond, ◌||◌, eqb, ltb, List, [], ◌∷◌, ◌++◌, length, take, replicate, IfErr, Some, Ok, Err, Option, Result, sym, refl, ap, ◌∙◌, arith, length-append}
use Rattle.std.proofs.lemmas.List.{length-replicate, take-replicate}
use Rattle.std.proofs.lemmas.Bool.{and_from, le-leb, ne_eqb, le-ltb, both_ways, or_from}
use Rattle.schedule.specs.declared.Part.{Part}
use Rattle.parts.specs.Faults.{shown}
use Rattle.parts.specs.Parts.{Proposed}
use Rattle.parts.specs.declared.fault.PlanFault.{PlanFault}
use Rattle.parts.specs.declared.lists.Proposal.{Proposal}
use Rattle.spa2.specs.declared.state.Processor.{Processor}
use Rattle.spa2.specs.Placing.{Tasks, State, started, visited_from, turns, parts_placed, weight, Visiting}
use Rattle.spa2.specs.Plans.{answered, refusal_of, finished, finished_if, spa2}
use Rattle.spa2.specs.Windows.{with_own_window, windowed_from}
use Rattle.spa2.proofs.Scans.{idle}
use Rattle.spa2.proofs.Keeping.{ok_same, placed_some, visits_keep}
use Rattle.spa2.proofs.Windowing.{windowed_next}
use Rattle.spa2.proofs.Visits.{visited_visiting}

-- A planner over processors that are all open, with no load, has placed nothing.
pub begun : (m : ℕ) (b : State) → m ≤ 8 → b ≡ record { processors = take (m - 0) (replicate 8 idle); pieces = []; reserve = []; parts = [] } → b ≡ started m
begun m b h e =
    let n : m - 0 ≡ m = omega arith in
    e ∙ ap (λ (xs : List Processor). record { processors = xs; pieces = []; reserve = []; parts = [] }) (ap (λ (k : ℕ). take k (replicate 8 idle)) n ∙ take-replicate m 8 idle h)

-- Visiting all tasks from the start, and then as many turns as there are tasks and processors.
pub placed_answer : (t : Tasks) (m : ℕ) (a b : State) (X : Result (List Part) PlanFault) → a ≡ started m → b ≡ visited_from t a 0 t.count →
    weight b ≤ t.count + length a.processors → ((k : ℕ) → weight b ≤ k → turns t k b ≡ X) → parts_placed t m ≡ X
placed_answer t m a b X ea eb w f =
    let many : length a.processors ≡ m = ap (λ (s : State). length s.processors) ea ∙ length-replicate m _ in
    ap (λ (s : State). turns t (t.count + m) s) (sym (eb ∙ ap (λ (s : State). visited_from t s 0 t.count) ea)) ∙ f (t.count + m) (omega (arith, many))

-- What is visited is there: each task is a piece or a part.
pub visiting_all : (t : Tasks) (m : ℕ) → Visiting (visited_from t (started m) 0 t.count) (0 + t.count)
visiting_all t m =
    visits_keep t (λ i s. Visiting s i) (λ i s h v. visited_visiting t s i v) 0 t.count (started m) (omega arith)
    (record { listed = refl; seated = omega arith; each = refl })

pub parts_some : (t : Tasks) (m : ℕ) (ps : List Part) → 1 ≤ t.count → parts_placed t m ≡ Ok ps → 1 ≤ length ps
parts_some t m ps h e =
    let v = visiting_all t m in
    placed_some t (t.count + m) (visited_from t (started m) 0 t.count) ps (omega (arith, v.each, v.listed)) e

-- As many parts have windows as were placed.
pub windowed_length : (t : Tasks) (respond : Part → ℕ → Option ℕ) (rest done qs : List Part) → windowed_from t respond done rest ≡ Ok qs → length qs ≡ length done + length rest
windowed_length t respond [] done qs e = omega (arith, ap (λ (xs : List Part). length xs) (ok_same done qs e))
windowed_length t respond (p ∷ rest) done qs e =
    let next = windowed_next t respond done p rest qs e in
    let q = with_own_window p next.0 in
    omega (arith, windowed_length t respond rest (done ++ (q ∷ [])) qs next.2, length-append done (q ∷ []))

-- A list of 1 to 64 parts is proposed as it is.
pub proposed_answer : (qs : List Part) (r : Result Proposal PlanFault) → 1 ≤ length qs → length qs ≤ 64 → Proposed qs r → answered r ≡ Ok qs
proposed_answer qs (Ok p) a b h = ap (λ (xs : List Part). Ok xs) h
proposed_answer qs (Err e) a b h =
    absurd (both_ways (eqb (length qs) 0 || ltb 64 (length qs)) (or_from _ _ (ne_eqb (length qs) 0 (λ z. omega arith)) (le-ltb 64 (length qs) b)) h.0)

-- The definition, where the parts are placed and have their windows.
pub spa2_done : (t : Tasks) (m : ℕ) (before : ℕ → ℕ → Bool) (curve : ℕ → ℕ → ℕ) (ps qs : List Part) → 1 ≤ m → m ≤ 8 →
    parts_placed t m ≡ Ok ps → finished t m before curve ps ≡ Ok qs → spa2 t m before curve ≡ Ok qs
spa2_done t m before curve ps qs a b e f =
    ap (λ (v : Bool). cond v (finished_if t m before curve (parts_placed t m)) (spa2 t 0 before curve)) (and_from _ _ (le-leb 1 m a) (le-leb m 8 b))
    ∙ (ap (λ (r : Result (List Part) PlanFault). finished_if t m before curve r) e ∙ f)

-- A refusal shows as the definition's does.
pub refused_alike : (r : Result Proposal PlanFault) (X : Result (List Part) PlanFault) → answered r ≡ X → IfErr r (λ e. refusal_of X ≡ Some (shown e))
refused_alike (Ok p) X e = tt
refused_alike (Err f) X e = sym (ap (λ (x : Result (List Part) PlanFault). refusal_of x) e)
