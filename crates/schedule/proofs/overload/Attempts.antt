-- Releases that are tried one after another, some of them refused.
use Rattle.std.proofs.Common.{◌≡◌, ℕ, ◌-◌, ◌<◌, ◌⊎◌, List, [], ◌∷◌, ◌++◌, map, length, sym, refl, ◌∙◌, subst, subst₂, inl, inr, append_assoc, append-nil, arith}
use Rattle.std.proofs.lemmas.Bool.{cases_eq}
use Rattle.schedule.specs.declared.Part.{Part}
use Rattle.schedule.specs.Lists.{◌∈◌}
use Rattle.schedule.specs.Curves.{Subadditive}
use Rattle.schedule.specs.Layout.{System, LaidOut}
use Rattle.schedule.specs.TickRule.{Job, State, job, released, release, Answer, taken, refused, answers, leaves, after_call, Event, History}
use Rattle.schedule.specs.TickRule.{history, state_after}
use Rattle.schedule.proofs.facts.Lists.{in_here, in_there, in_none, in_cases}
use Rattle.schedule.proofs.facts.Calls.{job_released, job_released_other, room_released, room_released_other, length_released, release_either}
use Rattle.schedule.proofs.overload.Traces.{Tracked, tracked_release, tracked_refused}
use Rattle.schedule.proofs.overload.Arrivals.{Due, Made, due_refused, due_taken}

-- The state after the releases of some tasks are tried in turn.
abbrev pub opens : System → List ℕ → State → State
opens sys [] s = s
opens sys (i ∷ is) s = opens sys is (after_call sys s (release i))

-- A release of a known task is taken just where there is room.
pub attempt : (sys : System) (s : State) (i : ℕ) → i < sys.tasks →
    ((answers sys s (release i) ≡ taken) × (s.room i 1 ≡ 0 → ⊥)) ⊎ ((answers sys s (release i) ≡ refused 14 i) × (s.room i 1 ≡ 0))
attempt sys s i h =
    release_either sys s i (λ an. ((an ≡ taken) × (s.room i 1 ≡ 0 → ⊥)) ⊎ ((an ≡ refused 14 i) × (s.room i 1 ≡ 0)))
    (λ a. absurd (omega arith)) (λ a z. inr (refl, z)) (λ a n. inl (refl, λ z. omega arith))

tracked_attempt : (sys : System) → LaidOut sys → (h : History) (s : State) (i : ℕ) → i < sys.tasks → Tracked sys h s →
    Tracked sys (h ++ ((release i, answers sys s (release i)) ∷ [])) (after_call sys s (release i))
tracked_attempt sys lo h s i hi t =
    let P : Answer → Type 0 = λ an. Tracked sys (h ++ ((release i, an) ∷ [])) (leaves sys s (release i) an) in
    elim (attempt sys s i hi) [
      | inl e ↦ subst P (sym e.0) (tracked_release sys lo h s i hi t)
      | inr e ↦ subst P (sym e.0) (tracked_refused sys lo h s i 14 i t)
    ]

pub tracked_opens : (sys : System) → LaidOut sys → (is : List ℕ) (h : History) (s : State) → ((i : ℕ) → i ∈ is → i < sys.tasks) → Tracked sys h s →
    Tracked sys (h ++ history sys s (map release is)) (opens sys is s)
tracked_opens sys lo [] h s k t = subst (λ x. Tracked sys x s) (sym (append-nil h)) t
tracked_opens sys lo (i ∷ is) h s k t =
    let s' = after_call sys s (release i) in
    let e : Event = (release i, answers sys s (release i)) in
    let r = tracked_opens sys lo is (h ++ (e ∷ [])) s' (λ z m. k z (in_there z i is m)) (tracked_attempt sys lo h s i (k i (in_here i is)) t) in
    subst (λ x. Tracked sys x (opens sys is s')) (append_assoc h (e ∷ []) (history sys s' (map release is))) r

pub opens_after : (sys : System) (is : List ℕ) (s : State) → state_after sys s (map release is) ≡ opens sys is s
opens_after sys [] s = refl
opens_after sys (i ∷ is) s = opens_after sys is (after_call sys s (release i))

sized_attempt : (sys : System) (s : State) (i : ℕ) → i < sys.tasks → length (after_call sys s (release i)).jobs ≡ length s.jobs
sized_attempt sys s i hi =
    let P : Answer → Type 0 = λ an. length (leaves sys s (release i) an).jobs ≡ length s.jobs in
    elim (attempt sys s i hi) [
      | inl e ↦ subst P (sym e.0) (length_released sys s i)
      | inr e ↦ subst P (sym e.0) refl
    ]

clock_attempt : (sys : System) (s : State) (i : ℕ) → i < sys.tasks → (after_call sys s (release i)).clock ≡ s.clock
clock_attempt sys s i hi =
    let P : Answer → Type 0 = λ an. (leaves sys s (release i) an).clock ≡ s.clock in
    elim (attempt sys s i hi) [
      | inl e ↦ subst P (sym e.0) refl
      | inr e ↦ subst P (sym e.0) refl
    ]

pub clock_opens : (sys : System) (is : List ℕ) (s : State) → ((i : ℕ) → i ∈ is → i < sys.tasks) → (opens sys is s).clock ≡ s.clock
clock_opens sys [] s k = refl
clock_opens sys (i ∷ is) s k = clock_opens sys is (after_call sys s (release i)) (λ z m. k z (in_there z i is m)) ∙ clock_attempt sys s i (k i (in_here i is))

-- What an attempt leaves of the room and the job of task k.
other_attempt : (P : (ℕ → ℕ) → Job → Type 0) (sys : System) (s : State) (i k : ℕ) → i < sys.tasks → (k ≡ i → ⊥) → P (s.room k) (job s k) →
    P ((after_call sys s (release i)).room k) (job (after_call sys s (release i)) k)
other_attempt P sys s i k hi ne h =
    let Q : Answer → Type 0 = λ an. P ((leaves sys s (release i) an).room k) (job (leaves sys s (release i) an) k) in
    let rm : (released sys s i).room k ≡ s.room k = room_released_other sys s i k ne in
    elim (attempt sys s i hi) [
      | inl e ↦ subst Q (sym e.0) (subst₂ P (sym rm) (sym (job_released_other sys s i k ne)) h)
      | inr e ↦ subst Q (sym e.0) h
    ]

-- Part x in a state.
abbrev pub DueIn : System → Part → ℕ → ℕ → State → Type 0
DueIn sys x m c s = Due sys x m c (s.room x.task) (job s x.task)

abbrev pub MadeIn : System → Part → ℕ → ℕ → State → Type 0
MadeIn sys x m c s = Made sys x m c (s.room x.task) (job s x.task)

module _ (sys : System) (lo : LaidOut sys) (x : Part) (mx : x ∈ sys.parts) (sub : Subadditive (sys.curve x.task)) where
  due_attempt : (m c : ℕ) (s : State) → length s.jobs ≡ sys.tasks → DueIn sys x m c s → MadeIn sys x m c (after_call sys s (release x.task))
  due_attempt m c s sz du =
      let k = x.task in
      let hk : k < sys.tasks = (lo.known x mx).0 in
      let Q : Answer → Type 0 = λ an. MadeIn sys x m c (leaves sys s (release k) an) in
      let rm : (released sys s k).room k ≡ (λ L. s.room k L - 1) = room_released sys s k in
      elim (attempt sys s k hk) [
        | inl e ↦ subst Q (sym e.0) (subst₂ (Made sys x m c) (sym rm) (sym (job_released sys s k (omega arith))) (due_taken sys lo x mx sub m c (s.room k) (job s k) du e.1))
        | inr e ↦ subst Q (sym e.0) (due_refused sys lo x mx sub m c (s.room k) (job s k) du e.1)
      ]

  made_attempt : (m c : ℕ) (s : State) → MadeIn sys x m c s → MadeIn sys x m c (after_call sys s (release x.task))
  made_attempt m c s ma =
      let k = x.task in
      let hk : k < sys.tasks = (lo.known x mx).0 in
      let Q : Answer → Type 0 = λ an. MadeIn sys x m c (leaves sys s (release k) an) in
      elim (attempt sys s k hk) [
        | inl e ↦ absurd (e.1 (omega (arith, ma.room 1 (omega arith))))
        | inr e ↦ subst Q (sym e.0) ma
      ]

  pub made_opens : (is : List ℕ) (m c : ℕ) (s : State) → ((i : ℕ) → i ∈ is → i < sys.tasks) → MadeIn sys x m c s → MadeIn sys x m c (opens sys is s)
  made_opens [] m c s k ma = ma
  made_opens (i ∷ is) m c s k ma =
      made_opens is m c (after_call sys s (release i)) (λ z n. k z (in_there z i is n))
      (elim (cases_eq x.task i) [
        | inl e ↦ subst (λ z. MadeIn sys x m c (after_call sys s (release z))) e (made_attempt m c s ma)
        | inr ne ↦ other_attempt (Made sys x m c) sys s i x.task (k i (in_here i is)) ne ma
      ])

  pub due_opens : (is : List ℕ) (m c : ℕ) (s : State) → ((i : ℕ) → i ∈ is → i < sys.tasks) → length s.jobs ≡ sys.tasks → x.task ∈ is →
      DueIn sys x m c s → MadeIn sys x m c (opens sys is s)
  due_opens [] m c s k sz n du = absurd (in_none x.task n)
  due_opens (i ∷ is) m c s k sz n du =
      elim (cases_eq x.task i) [
        | inl e ↦ made_opens is m c (after_call sys s (release i)) (λ z n'. k z (in_there z i is n'))
            (subst (λ z. MadeIn sys x m c (after_call sys s (release z))) e (due_attempt m c s sz du))
        | inr ne ↦
            let n' : x.task ∈ is = elim (in_cases x.task i is n) [ inl e ↦ absurd (ne e) | inr w ↦ w ] in
            due_opens is m c (after_call sys s (release i)) (λ z n'. k z (in_there z i is n')) (sized_attempt sys s i (k i (in_here i is)) ∙ sz) n'
            (other_attempt (Due sys x m c) sys s i x.task (k i (in_here i is)) ne du)
      ]

  pub wait_opens : (is : List ℕ) (m c : ℕ) (s : State) → ((i : ℕ) → i ∈ is → i < sys.tasks) → (x.task ∈ is → ⊥) →
      DueIn sys x m c s → DueIn sys x m c (opens sys is s)
  wait_opens [] m c s k out du = du
  wait_opens (i ∷ is) m c s k out du =
      let ne : x.task ≡ i → ⊥ = λ e. out (subst (λ z. x.task ∈ (z ∷ is)) e (in_here x.task is)) in
      wait_opens is m c (after_call sys s (release i)) (λ z n. k z (in_there z i is n)) (λ w. out (in_there x.task i is w))
      (other_attempt (Due sys x m c) sys s i x.task (k i (in_here i is)) ne du)
