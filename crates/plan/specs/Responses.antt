-- Response times, by looking for them and as least solutions.
use Rattle.std.specs.Prelude.{ℕ, ◌*◌, ◌<◌, ◌≤◌, cond, Some, None, Option, nat_le}
use Rattle.tasks.specs.Searches.{first_from}
use Rattle.schedule.specs.declared.Part.{Part}
use Rattle.schedule.specs.Layout.{System, demand, interferes}

-- What part p adds to the demand that part q meets in a stretch of t ticks.
abbrev pub share : System → Part → ℕ → Part → ℕ
share sys q t p = cond (interferes sys q p) (sys.curve p.task t * p.cost) 0

-- The response time of part q, looked for from 1 up to a limit.
abbrev pub response_within : System → Part → ℕ → Option ℕ
response_within sys q limit = first_from (λ t. nat_le (demand sys q t) t) 1 limit

-- t ticks, no more than the limit, suffice for part q and all that can go before it on its processor.
abbrev pub SufficesWithin : System → Part → ℕ → ℕ → Type 0
SufficesWithin sys q limit t = (1 ≤ t) × (t ≤ limit) × (demand sys q t ≤ t)

-- What looking for a response time gives: the least solution, or none exactly where there is none up to the limit.
abbrev pub Least : System → Part → ℕ → Option ℕ → Type 0
Least sys q limit None = (t : ℕ) → SufficesWithin sys q limit t → ⊥
Least sys q limit (Some t) = SufficesWithin sys q limit t × ((u : ℕ) → u < t → SufficesWithin sys q limit u → ⊥)
