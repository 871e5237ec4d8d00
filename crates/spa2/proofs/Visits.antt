-- What holds while the tasks are visited.
use Rattle.std.proofs.Common.{◌≡◌, ℕ, zero, suc, ◌+◌, ◌-◌, ◌*◌, ◌≤◌, ◌&&◌, leb, [], ◌∷◌, length, refl, ◌∙◌, arith, length-append, length-set}
use Rattle.std.proofs.lemmas.Bool.{cond_both, and_parts, leb-true}
use Rattle.spa2.specs.declared.state.Standing.TheVariants.{Reserved}
use Rattle.spa2.specs.Loads.{heavy}
use Rattle.spa2.specs.Placing.{Tasks, State, load_at, threshold, followers, free, goes_beforehand, beforehand, pieced, visited, visited_from, placed, Visiting}

pub visited_visiting : (t : Tasks) (s : State) (i : ℕ) → Visiting s i → Visiting (visited t s i) (i + 1)
visited_visiting t s i v =
    cond_both (goes_beforehand t s i) (beforehand t s i) (pieced t s i) (λ z. Visiting z (i + 1))
    (λ e.
    let some : 1 ≤ free s = leb-true 1 (free s) (and_parts (leb 1 (free s)) (leb (followers t i) ((free s - 1) * threshold t)) (and_parts (heavy (threshold t) (load_at t i)) (leb 1 (free s) && leb (followers t i) ((free s - 1) * threshold t)) e).1).0 in
    record {
      listed = omega (arith, v.listed, length-append s.parts (placed i (length s.reserve) (t.cost i) ∷ []));
      seated = omega (arith, length-set s.processors (length s.reserve) (record { load = load_at t i; standing = Reserved }));
      each = omega (arith, v.each);
    })
    (λ e. record { listed = v.listed; seated = v.seated; each = omega (arith, v.each) })

-- No visit changes how many processors there are.
pub visited_length : (t : Tasks) (s : State) (i : ℕ) → length (visited t s i).processors ≡ length s.processors
visited_length t s i =
    cond_both (goes_beforehand t s i) (beforehand t s i) (pieced t s i) (λ z. length z.processors ≡ length s.processors)
    (λ e. length-set s.processors (length s.reserve) (record { load = load_at t i; standing = Reserved }))
    (λ e. refl)

pub visits_length : (t : Tasks) (s : State) (i n : ℕ) → length (visited_from t s i n).processors ≡ length s.processors
visits_length t s i zero = refl
visits_length t s i (suc n) = visits_length t (visited t s i) (i + 1) n ∙ visited_length t s i
