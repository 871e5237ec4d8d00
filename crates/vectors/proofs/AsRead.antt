-- What is said of the numbers on a sheet is so of whatever set and rule are made of them.
use Rattle.std.proofs.Common.{◌≡◌, ℕ, ◌<◌, ◌≤◌, Bool, false, cond, not, ◌||◌, eqb, ltb, leb, List, length, get_or, None, Ok, Option, Result, sym, ap, ◌∙◌, subst, inl, inr, arith}
use mathlib.Core.Path.{fun_ext}
use Rattle.std.proofs.lemmas.Bool.{cases_lt, lt-ltb, le-ltb}
use Rattle.std.specs.Option.{option_or, option_map}
use Rattle.std.specs.Bool.{then_some}
use Rattle.schedule.specs.declared.Part.{Part}
use Rattle.schedule.specs.Layout.{System, work_of}
use Rattle.tasks.specs.Numbers.{as_numbered}
use Rattle.tasks.specs.Orders.{as_asked, by_period}
use Rattle.tasks.specs.Searches.{first_where}
use Rattle.tasks.proofs.Sets.{past_period, past_cost}
use Rattle.tasks.specs.Sets.{Holds, period_of, cost_of}
use Rattle.rules.specs.Spacing.{Spaced, spaced_curve}
use Rattle.tasks.specs.declared.fault.SetFault.TheVariants as Sets
use Rattle.tasks.specs.declared.set.TaskSet.{TaskSet}
use Rattle.plan.specs.Checks.{part_at, off_scale, twin, overlap, late}
use Rattle.parts.specs.declared.fault.PlanFault.{PlanFault}
use Rattle.parts.specs.declared.fault.PlanFault.TheVariants.{Set, OffScale, Stranger, Twin, Miscount, Overlap, Late, Cramped}
use Rattle.parts.specs.Parts.{plan_of}
use Rattle.sheet.specs.declared.fault.SheetFault.{SheetFault}
use Rattle.spa2.specs.Placing.{Tasks, tasks_of}
use Rattle.spa2.specs.Plans as Plans
use Rattle.sheets.specs.Grammar as Grammar
use Rattle.sheets.specs.Grammar.{task_sheet, sheet_pair}
use Rattle.sheets.specs.Answers.{ReadTasks, ReadBoth}
use Rattle.sheets.specs.Refusals.{task_refusal, both_refusal}
use Rattle.vectors.specs.Forms.{releases_in, SpacedBy, WrittenAs, PlannerWrites, OfBoth}

-- The numbers of a list, and another past them.
abbrev up_to : List ℕ → ℕ → ℕ → ℕ → ℕ
up_to xs n past i = cond (ltb i n) (get_or xs i 0) past

-- The tasks on a sheet as numbers.
abbrev pub numbers : Grammar.Tasks → Tasks
numbers t = record { count = length t.periods; period = up_to t.periods (length t.periods) 1; cost = up_to t.costs (length t.periods) 0 }

-- The curves of some tasks, and which of two goes before the other.
abbrev pub curves : Tasks → ℕ → ℕ → ℕ
curves t i L = releases_in (t.period (as_numbered i)) L

abbrev pub earlier : Tasks → ℕ → ℕ → Bool
earlier t a b = by_period (as_asked (record { number = a; period = t.period a })) (as_asked (record { number = b; period = t.period b }))

-- The system of some tasks.
abbrev pub system_of : Tasks → ℕ → List Part → (ℕ → ℕ → ℕ) → System
system_of t m ps curve = Plans.system_of t m (earlier t) curve ps

-- What the check finds, of tasks as numbers.
abbrev pub fault : Tasks → ℕ → List Part → (ℕ → ℕ → ℕ) → ℕ → Option PlanFault
fault t m ps curve room =
    option_or (option_or (option_or
    (option_or (then_some (eqb m 0 || ltb 8 m) (Set (Sets.OffScale 0)))
    (option_or (then_some (eqb (length ps) 0 || ltb 64 (length ps)) (OffScale 0))
    (option_or (option_map OffScale (first_where (off_scale ps) (length ps)))
    (option_or (option_map Stranger (first_where (λ k. leb t.count (part_at ps k).task || leb m (part_at ps k).processor) (length ps)))
    (option_or (option_map Twin (first_where (twin ps) (length ps)))
    (option_map Miscount (first_where (λ i. not (eqb (work_of ps i) (t.cost i))) t.count)))))))
    (option_map Overlap (first_where (overlap (system_of t m ps curve)) t.count)))
    (option_map Late (first_where (late (system_of t m ps curve)) (length ps))))
    (then_some (ltb room (length ps)) (Cramped (length ps)))

-- A number that is tested for its place, and the place is known.
placed : (f : ℕ → ℕ) (xs : List ℕ) (n past : ℕ) → ((i : ℕ) → i < n → f i ≡ get_or xs i 0) → ((i : ℕ) → n ≤ i → f i ≡ past) → (i : ℕ) → f i ≡ up_to xs n past i
placed f xs n past inside outside i =
    elim (cases_lt i n) [
      | inl h ↦ inside i h ∙ sym (ap (λ (b : Bool). cond b (get_or xs i 0) past) (lt-ltb i n h))
      | inr h ↦ outside i h ∙ sym (ap (λ (b : Bool). cond b (get_or xs i 0) past) (le-ltb i n h))
    ]

module _ (t : Grammar.Tasks) (set : TaskSet) (holds : Holds (length t.periods) (λ i. get_or t.periods i 0) (λ i. get_or t.costs i 0) set) where
  beyond : (i : ℕ) → length t.periods ≤ i → set.count ≤ i
  beyond i h = omega (arith, holds.0)

  same_periods : (i : ℕ) → period_of set i ≡ (numbers t).period i
  same_periods = placed (period_of set) t.periods (length t.periods) 1 (λ i h. (holds.1 i h).0) (λ i h. past_period set i (beyond i h))

  same_costs : (i : ℕ) → cost_of set i ≡ (numbers t).cost i
  same_costs = placed (cost_of set) t.costs (length t.periods) 0 (λ i h. (holds.1 i h).1) (λ i h. past_cost set i (beyond i h))

  same_tasks : tasks_of set ≡ numbers t
  same_tasks = λ j. record { count = holds.0 j; period = fun_ext same_periods j; cost = fun_ext same_costs j }

  -- What is so of the numbers is so of the set and of its spaced rule.
  pub as_read : (rule : Spaced) → SpacedBy rule set → (P : Tasks → (ℕ → ℕ → ℕ) → Type 0) → P (numbers t) (curves (numbers t)) → P (tasks_of set) (λ i. spaced_curve rule (as_numbered i))
  as_read rule spaced P p =
      let e : ◌≡◌ {A = ℕ → ℕ → ℕ} (curves (tasks_of set)) (λ i. spaced_curve rule (as_numbered i)) = fun_ext (λ i. fun_ext (λ L. sym (spaced (as_numbered i) L (omega arith)))) in
      let q : P (tasks_of set) (curves (tasks_of set)) = subst (λ (z : Tasks). P z (curves z)) (sym same_tasks) p in
      subst (P (tasks_of set)) e q

-- So it is of what reading makes of a task sheet, and of both sheets.
pub of_tasks : (input : List ℕ) (t : Grammar.Tasks) (output : List ℕ) → task_refusal input ≡ None → task_sheet input ≡ Ok t →
    WrittenAs output (Plans.spa2 (numbers t) t.processors (earlier (numbers t)) (curves (numbers t))) → PlannerWrites input output
of_tasks input t output no_fault e p = (
  no_fault,
  λ sheet rule read spaced.
      let b = subst (λ (z : Result Grammar.Tasks SheetFault). ReadTasks z (Ok sheet)) e read in
      as_read t sheet.set b.0.1 rule spaced (λ z c. WrittenAs output (Plans.spa2 z sheet.processors (earlier z) c))
      (subst (λ (m : ℕ). WrittenAs output (Plans.spa2 (numbers t) m (earlier (numbers t)) (curves (numbers t)))) (sym b.1) p),
)

pub of_both : (Says : TaskSet → ℕ → List Part → (ℕ → ℕ → ℕ) → Type 0) (P : Tasks → ℕ → List Part → (ℕ → ℕ → ℕ) → Type 0) →
    ((set : TaskSet) (m : ℕ) (qs : List Part) (curve : ℕ → ℕ → ℕ) → P (tasks_of set) m qs (λ i. curve (as_numbered i)) → Says set m qs curve) →
    (input : List ℕ) (t : Grammar.Tasks) (ps : List Part) → both_refusal input ≡ None → sheet_pair input ≡ Ok (t, ps) →
    P (numbers t) t.processors ps (curves (numbers t)) → OfBoth input Says
of_both Says P says input t ps no_fault e p = (
  no_fault,
  λ sheet plan rule read spaced.
      let b = subst (λ (z : Result (Grammar.Tasks × List Part) SheetFault). ReadBoth z (Ok (sheet, plan))) e read in
      says sheet.set sheet.processors (plan_of plan) (spaced_curve rule)
      (as_read t sheet.set b.0.0.1 rule spaced (λ z c. P z sheet.processors (plan_of plan) c)
      (subst (λ (qs : List Part). P (numbers t) sheet.processors qs (curves (numbers t))) (sym b.1)
      (subst (λ (m : ℕ). P (numbers t) m ps (curves (numbers t))) (sym b.0.1) p))),
)
