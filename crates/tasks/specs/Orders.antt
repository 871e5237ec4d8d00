-- What a priority order is told, and how its question reads it.
use Rattle.std.specs.Prelude.{ℕ, ◌<◌, ◌≤◌, Bool, ◌&&◌, ◌||◌, T, ◌⊎◌, List, ◌==◌, ◌≢◌, nat_lt, slice_index}
pub use Rattle.tasks.specs.Numbers.{as_numbered}
use Rattle.tasks.specs.declared.order.TaskKey.{TaskKey}

-- A task that the laws of an order speak of: its number below 32, its period on the scale.
abbrev pub Told : TaskKey → Type 0
Told a = (a.number < 32) × (1 ≤ a.period) × (a.period ≤ 100000)

-- The laws of a priority order's relation: no task goes before itself; of two tasks with different numbers one goes before the
-- other, and only one; and it is transitive over tasks of three different numbers.
pub record LawfulOrder (before : TaskKey → TaskKey → Bool) : Type 0 where
  pub irreflexive : (a : TaskKey) → Told a → T (before a a) → ⊥
  pub connected : (a b : TaskKey) → Told a → Told b → (a.number ≢ b.number) → T (before a b) ⊎ T (before b a)
  pub asymmetric : (a b : TaskKey) → Told a → Told b → (a.number ≢ b.number) → T (before a b) → T (before b a) → ⊥
  pub transitive : (a b c : TaskKey) → Told a → Told b → Told c → (a.number ≢ b.number) → (b.number ≢ c.number) → (a.number ≢ c.number) →
      T (before a b) → T (before b c) → T (before a c)

-- A task as the question reads it.
abbrev pub as_asked : TaskKey → TaskKey
as_asked a = record { number = as_numbered a.number; period = a.period }

-- Of two values, each with a number: the smaller value is first, and of equal values that of the smaller number.
abbrev pub first_of : ℕ → ℕ → ℕ → ℕ → Bool
first_of x i y j = nat_lt x y || (x == y && nat_lt i j)

-- The rate-monotonic order: the smaller period first, equals by the smaller number.
abbrev pub by_period : TaskKey → TaskKey → Bool
by_period a b = first_of a.period a.number b.period b.number

-- The order of a list of grades: the smaller grade first, equals by the smaller number.
abbrev pub by_grade : List ℕ → TaskKey → TaskKey → Bool
by_grade grades a b = first_of (slice_index grades a.number) a.number (slice_index grades b.number) b.number
