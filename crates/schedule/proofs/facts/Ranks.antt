-- The laws of the priority order as equations, and ranks: a task goes before another exactly where its rank is lower.
use Rattle.std.proofs.Common.{◌≡◌, ℕ, ◌<◌, ◌≤◌, true, ap, inl, inr, arith}
use Rattle.std.proofs.lemmas.Bool.{cases_Bool, cases_eq}
use Rattle.schedule.specs.Lists.{◌∈◌, below, one_if}
use Rattle.schedule.specs.Layout.{System, LaidOut}
use Rattle.schedule.specs.TickRule.{rank}
use Rattle.schedule.proofs.facts.Lists.{from_T, to_T, total_lt, in_below, below_in}

-- The laws of the order, as equations.
pub before_not : (sys : System) → LaidOut sys → (a b : ℕ) → a < sys.tasks → b < sys.tasks → sys.before a b ≡ true → sys.before b a ≡ true → ⊥
before_not sys lo a b ha hb ab ba = lo.ordered.asymmetric a b ha hb (to_T (sys.before a b) ab) (to_T (sys.before b a) ba)

pub before_trans : (sys : System) → LaidOut sys → (a b c : ℕ) → a < sys.tasks → b < sys.tasks → c < sys.tasks → sys.before a b ≡ true → sys.before b c ≡ true → sys.before a c ≡ true
before_trans sys lo a b c ha hb hc ab bc =
    from_T (sys.before a c) (lo.ordered.transitive a b c ha hb hc (to_T (sys.before a b) ab) (to_T (sys.before b c) bc))

-- Ranks.
pub rank_from_before : (sys : System) → LaidOut sys → (a b : ℕ) → a < sys.tasks → b < sys.tasks → sys.before a b ≡ true → rank sys a < rank sys b
rank_from_before sys lo a b ha hb ab = total_lt (λ j. one_if (sys.before j a)) (λ j. one_if (sys.before j b)) (below sys.tasks) a (in_below a sys.tasks ha) each here
  where
    each : (j : ℕ) → j ∈ below sys.tasks → one_if (sys.before j a) ≤ one_if (sys.before j b)
    each j m =
        let hj : j < sys.tasks = below_in j sys.tasks m in
        elim (cases_Bool (sys.before j a)) [
          | inl e ↦ let k : sys.before j b ≡ true = before_trans sys lo j a b hj ha hb e ab in rw (e, k) (omega arith)
          | inr e ↦ rw e (omega arith)
        ]

    here : one_if (sys.before a a) < one_if (sys.before a b)
    here =
        elim (cases_Bool (sys.before a a)) [
          | inl e ↦ absurd (lo.ordered.irreflexive a ha (to_T (sys.before a a) e))
          | inr e ↦ rw (e, ab) (omega arith)
        ]

pub before_from_rank : (sys : System) → LaidOut sys → (a b : ℕ) → a < sys.tasks → b < sys.tasks → rank sys a < rank sys b → sys.before a b ≡ true
before_from_rank sys lo a b ha hb r =
    elim (cases_eq a b) [
      | inl e ↦ absurd (let k : rank sys a ≡ rank sys b = ap (rank sys) e in omega arith)
      | inr ne ↦ elim (lo.ordered.connected a b ha hb ne) [
        | inl t ↦ from_T (sys.before a b) t
        | inr t ↦ absurd (let k : rank sys b < rank sys a = rank_from_before sys lo b a hb ha (from_T (sys.before b a) t) in omega arith)
      ]
    ]

pub rank_apart : (sys : System) → LaidOut sys → (a b : ℕ) → a < sys.tasks → b < sys.tasks → rank sys a ≡ rank sys b → a ≡ b
rank_apart sys lo a b ha hb r =
    elim (cases_eq a b) [
      | inl e ↦ e
      | inr ne ↦ elim (lo.ordered.connected a b ha hb ne) [
        | inl t ↦ absurd (let k : rank sys a < rank sys b = rank_from_before sys lo a b ha hb (from_T (sys.before a b) t) in omega arith)
        | inr t ↦ absurd (let k : rank sys b < rank sys a = rank_from_before sys lo b a hb ha (from_T (sys.before b a) t) in omega arith)
      ]
    ]
