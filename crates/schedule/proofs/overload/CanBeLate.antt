-- A plan with a part that has no response time can be made late.
use Rattle.std.proofs.Common.{ℕ, ◌+◌, ◌<◌, ◌⊎◌, List, [], ◌∷◌, ◌++◌, sym, refl, subst, inl, inr, arith}
use Rattle.schedule.specs.declared.Part.{Part}
use Rattle.schedule.specs.Lists.{◌∈◌}
use Rattle.schedule.specs.Curves.{Subadditive}
use Rattle.schedule.specs.Layout.{System, InTime, LaidOut}
use Rattle.schedule.specs.TickRule.{job, started, Call, tick, history}
use Rattle.schedule.specs.Promise.{SomeLate, Plain}
use Rattle.schedule.proofs.facts.Lists.{each_in, each_join}
use Rattle.schedule.proofs.Responses.{search_below, overloaded_part}
use Rattle.schedule.proofs.overload.Traces.{LateNow, late_some, OnTime, late_or}
use Rattle.schedule.proofs.overload.CriticalInstant.{instant, calls, at, calls_plain, calls_tracked, calls_tick}
use Rattle.schedule.proofs.overload.Account.{instant_low, on_time_not_overloaded}

abbrev LateAt : System → Part → ℕ → Type 0
LateAt sys q t = (i : ℕ) × (i < sys.tasks) × LateNow sys (at sys q t) i

abbrev TimelyAt : System → Part → ℕ → Type 0
TimelyAt sys q t = (i : ℕ) → i < sys.tasks → OnTime sys (at sys q t) i (job (at sys q t) i)

late_at_or : (sys : System) (q : Part) (t : ℕ) → LateAt sys q t ⊎ TimelyAt sys q t
late_at_or sys q t = search_below (LateNow sys (at sys q t)) (λ i. OnTime sys (at sys q t) i (job (at sys q t) i)) (late_or sys (at sys q t)) sys.tasks

made_late : (sys : System) → LaidOut sys → (q : Part) → q ∈ sys.parts → (t : ℕ) → t < instant sys + q.window → LateAt sys q t →
    (cs : List Call) × SomeLate sys (history sys (started sys) cs) × ((c : Call) → c ∈ cs → Plain sys c)
made_late sys lo q mq t h la =
    let low = instant_low sys lo q mq in
    let past = history sys (started sys) (calls sys q t) in
    let e = calls_tick sys lo q t (omega arith) in (
      calls sys q t ++ (tick sys.procs ∷ []),
      subst (SomeLate sys) (sym e) (late_some sys lo past (at sys q t) sys.procs la.0 (calls_tracked sys lo q t (omega arith)) la.1 la.2),
      (λ c m. each_in (Plain sys) _ c m (each_join (Plain sys) (calls sys q t) (tick sys.procs ∷ []) (calls_plain sys lo q t) (refl, tt))),
    )

pub can_be_late : (sys : System) → LaidOut sys → ((i : ℕ) → i < sys.tasks → Subadditive (sys.curve i)) →
    (InTime sys → ⊥) → (cs : List Call) × SomeLate sys (history sys (started sys) cs) × ((c : Call) → c ∈ cs → Plain sys c)
can_be_late sys lo sub no_times =
    let w = overloaded_part sys no_times in
    let q = w.0 in
    elim (search_below (LateAt sys q) (TimelyAt sys q) (late_at_or sys q) (instant sys + q.window)) [
      | inl f ↦ made_late sys lo q w.1 f.0 f.1 f.2
      | inr all ↦ absurd (on_time_not_overloaded sys lo sub q w.1 all w.2)
    ]
