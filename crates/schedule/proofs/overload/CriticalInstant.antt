-- The critical instant of a part: calls that bring it all that may go before it at one time, as often as the curves admit.
use Rattle.std.proofs.Common.{◌≡◌, ℕ, zero, suc, ◌+◌, ◌<◌, ◌≤◌, Bool, true, cond, ◌&&◌, ◌||◌, eqb, leb, List, [], ◌∷◌, ◌++◌, map, sym, refl, ap, ◌∙◌, subst, inl, inr, append_assoc, arith}
use Rattle.std.proofs.lemmas.Bool.{leb-true, le-leb, and_parts, and_from, cond_both, both_ways}
use Rattle.schedule.specs.declared.Part.{Part}
use Rattle.schedule.specs.Lists.{◌∈◌, total}
use Rattle.schedule.specs.Layout.{System, LaidOut}
use Rattle.schedule.specs.TickRule.{State, started, answer, ticked, Call, release, tick, ran, last_clock, leaves, Event, history, state_after}
use Rattle.schedule.specs.Promise.{Plain}
use Rattle.schedule.proofs.facts.Lists.{in_here, in_there, in_none, in_cases, Each, each_join}
use Rattle.schedule.proofs.facts.Calls.{tick_taken}
use Rattle.schedule.proofs.facts.Segments.{begin_on}
use Rattle.schedule.proofs.overload.Traces.{Tracked, tracked_tick, tracked_started}
use Rattle.schedule.proofs.overload.Attempts.{opens, tracked_opens, opens_after, clock_opens}
use Rattle.schedule.proofs.Histories.{history_append, state_append}

-- The parts that take part: q, and those that go before it on its processor.
abbrev pub chosen : System → Part → Part → Bool
chosen sys q x = eqb x.processor q.processor && (eqb x.task q.task || sys.before x.task q.task)

-- The instant lies after all windows; a part's task is first released so much before it as the part begins after the release.
abbrev pub instant : System → ℕ
instant sys = total (λ x. x.window) sys.parts

abbrev pub first : System → Part → ℕ → ℕ
first sys q i = begin_on sys.parts i q.processor

abbrev pub due_from : System → Part → ℕ → List Part → List ℕ
due_from sys q t [] = []
due_from sys q t (x ∷ xs) =
    let rest = due_from sys q t xs in
    cond (chosen sys q x && leb (instant sys) (t + first sys q x.task)) (x.task ∷ rest) rest

-- The tasks whose release is tried at time t.
abbrev pub due_at : System → Part → ℕ → List ℕ
due_at sys q t = due_from sys q t sys.parts

-- The calls up to time t and the releases of that time, and the state after them.
unfoldable pub calls : System → Part → ℕ → List Call
calls sys q zero = map release (due_at sys q 0)
calls sys q (suc t) = calls sys q t ++ (tick sys.procs ∷ map release (due_at sys q (suc t)))

unfoldable pub at : System → Part → ℕ → State
at sys q zero = opens sys (due_at sys q 0) (started sys)
at sys q (suc t) = opens sys (due_at sys q (suc t)) (ticked sys (at sys q t))

-- Who is tried.
abbrev pub Tried : System → Part → ℕ → List Part → ℕ → Type 0
Tried sys q t ps i = (instant sys ≤ t + first sys q i) × ((x : Part) × (x ∈ ps) × (x.task ≡ i))

pub due_in : (sys : System) (q : Part) (t : ℕ) (ps : List Part) (i : ℕ) → i ∈ due_from sys q t ps → Tried sys q t ps i
due_in sys q t [] i m = absurd (in_none i m)
due_in sys q t (x ∷ xs) i m =
    let rest = due_from sys q t xs in
    let from_rest : i ∈ rest → Tried sys q t (x ∷ xs) i = λ n.
    let r = due_in sys q t xs i n in (r.0, (r.1.0, in_there r.1.0 x xs r.1.1, r.1.2)) in
    let both : i ∈ due_from sys q t (x ∷ xs) → Tried sys q t (x ∷ xs) i =
    cond_both (chosen sys q x && leb (instant sys) (t + first sys q x.task)) (x.task ∷ rest) rest (λ l. i ∈ l → Tried sys q t (x ∷ xs) i)
    (λ e n. elim (in_cases i x.task rest n) [
      | inl e' ↦
          let h : instant sys ≤ t + first sys q x.task = leb-true (instant sys) (t + first sys q x.task) (and_parts (chosen sys q x) _ e).1 in
          (omega (arith, ap (first sys q) e'), (x, in_here x xs, sym e'))
      | inr n' ↦ from_rest n'
    ])
    (λ e n. from_rest n) in
    both m

pub due_has : (sys : System) (q : Part) (t : ℕ) (ps : List Part) (x : Part) → x ∈ ps → chosen sys q x ≡ true → instant sys ≤ t + first sys q x.task →
    x.task ∈ due_from sys q t ps
due_has sys q t [] x m c h = absurd (in_none x m)
due_has sys q t (y ∷ ys) x m c h =
    let rest = due_from sys q t ys in
    let b : Part → Bool = λ z. chosen sys q z && leb (instant sys) (t + first sys q z.task) in
    let bx : b x ≡ true = and_from (chosen sys q x) _ c (le-leb (instant sys) (t + first sys q x.task) h) in
    cond_both (b y) (y.task ∷ rest) rest (λ l. x.task ∈ l)
    (λ e. elim (in_cases x y ys m) [
      | inl e' ↦ subst (λ (z : Part). x.task ∈ (z.task ∷ rest)) e' (in_here x.task rest)
      | inr n ↦ in_there x.task y.task rest (due_has sys q t ys x n c h)
    ])
    (λ e. elim (in_cases x y ys m) [
      | inl e' ↦ absurd (both_ways (b y) e (sym (ap b e') ∙ bx))
      | inr n ↦ due_has sys q t ys x n c h
    ])

pub due_known : (sys : System) → LaidOut sys → (q : Part) (t i : ℕ) → i ∈ due_at sys q t → i < sys.tasks
due_known sys lo q t i m =
    let w = (due_in sys q t sys.parts i m).1 in
    omega (arith, (lo.known w.0 w.1).0, w.2)

-- All these calls are plain.
releases_plain : (sys : System) (is : List ℕ) → ((i : ℕ) → i ∈ is → i < sys.tasks) → Each (Plain sys) (map release is)
releases_plain sys [] h = tt
releases_plain sys (i ∷ is) h = (h i (in_here i is), releases_plain sys is (λ k m. h k (in_there k i is m)))

pub calls_plain : (sys : System) → LaidOut sys → (q : Part) (t : ℕ) → Each (Plain sys) (calls sys q t)
unfolding calls
calls_plain sys lo q zero = releases_plain sys (due_at sys q 0) (due_known sys lo q 0)
calls_plain sys lo q (suc t) = each_join (Plain sys) (calls sys q t) (tick sys.procs ∷ map release (due_at sys q (suc t))) (calls_plain sys lo q t)
    (refl, releases_plain sys (due_at sys q (suc t)) (due_known sys lo q (suc t)))

-- The clock.
pub at_clock : (sys : System) → LaidOut sys → (q : Part) (t : ℕ) → (at sys q t).clock ≡ t
unfolding at
at_clock sys lo q zero = clock_opens sys (due_at sys q 0) (started sys) (due_known sys lo q 0)
at_clock sys lo q (suc t) = clock_opens sys (due_at sys q (suc t)) (ticked sys (at sys q t)) (due_known sys lo q (suc t)) ∙ omega (arith, at_clock sys lo q t)

pub calls_after : (sys : System) → LaidOut sys → (q : Part) (t : ℕ) → t ≤ last_clock → state_after sys (started sys) (calls sys q t) ≡ at sys q t
unfolding calls at
calls_after sys lo q zero h = opens_after sys (due_at sys q 0) (started sys)
calls_after sys lo q (suc t) h =
    let rels = map release (due_at sys q (suc t)) in
    state_append sys (started sys) (calls sys q t) (tick sys.procs ∷ rels)
    ∙ ap (λ s. state_after sys s (tick sys.procs ∷ rels)) (calls_after sys lo q t (omega arith))
    ∙ ap (λ an. state_after sys (leaves sys (at sys q t) (tick sys.procs) an) rels) (tick_taken sys (at sys q t) (omega (arith, at_clock sys lo q t)))
    ∙ opens_after sys (due_at sys q (suc t)) (ticked sys (at sys q t))

pub calls_tracked : (sys : System) → LaidOut sys → (q : Part) (t : ℕ) → t ≤ last_clock → Tracked sys (history sys (started sys) (calls sys q t)) (at sys q t)
unfolding calls at
calls_tracked sys lo q zero h = tracked_opens sys lo (due_at sys q 0) [] (started sys) (due_known sys lo q 0) (tracked_started sys)
calls_tracked sys lo q (suc t) h =
    let rels = map release (due_at sys q (suc t)) in
    let s = at sys q t in
    let past = history sys (started sys) (calls sys q t) in
    let low : s.clock < last_clock = omega (arith, at_clock sys lo q t) in
    let ev : Event = (tick sys.procs, ran (answer sys s)) in
    let tr = tracked_opens sys lo (due_at sys q (suc t)) (past ++ (ev ∷ [])) (ticked sys s) (due_known sys lo q (suc t))
    (tracked_tick sys lo past s sys.procs (calls_tracked sys lo q t (omega arith))) in
    let e : history sys (started sys) (calls sys q t ++ (tick sys.procs ∷ rels)) ≡ (past ++ (ev ∷ [])) ++ history sys (ticked sys s) rels =
    history_append sys (started sys) (calls sys q t) (tick sys.procs ∷ rels)
    ∙ ap (λ z. past ++ history sys z (tick sys.procs ∷ rels)) (calls_after sys lo q t (omega arith))
    ∙ ap (λ an. past ++ ((tick sys.procs, an) ∷ history sys (leaves sys s (tick sys.procs) an) rels)) (tick_taken sys s low)
    ∙ sym (append_assoc past (ev ∷ []) (history sys (ticked sys s) rels)) in
    subst (λ z. Tracked sys z (opens sys (due_at sys q (suc t)) (ticked sys s))) (sym e) tr

-- One tick more.
pub calls_tick : (sys : System) → LaidOut sys → (q : Part) (t : ℕ) → t < last_clock →
    history sys (started sys) (calls sys q t ++ (tick sys.procs ∷ [])) ≡ history sys (started sys) (calls sys q t) ++ ((tick sys.procs, ran (answer sys (at sys q t))) ∷ [])
calls_tick sys lo q t h =
    let past = history sys (started sys) (calls sys q t) in
    history_append sys (started sys) (calls sys q t) (tick sys.procs ∷ [])
    ∙ ap (λ z. past ++ history sys z (tick sys.procs ∷ [])) (calls_after sys lo q t (omega arith))
    ∙ ap (λ an. past ++ ((tick sys.procs, an) ∷ [])) (tick_taken sys (at sys q t) (omega (arith, at_clock sys lo q t)))
