-- What the records of a table mean, after one of them has changed.
use Rattle.std.proofs.Common.{◌≡◌, ℕ, zero, suc, ◌<◌, ◌≤◌, true, false, List, [], ◌∷◌, map, length, get_or, take, set, replicate, sym, refl, ap, ◌∙◌, subst, inl, inr, arith}
use Rattle.std.proofs.lemmas.Bool.{cases_eq, cases_lt}
use Rattle.std.proofs.lemmas.List.{get_or-set_same, get_or-set_other, set_past}
use Rattle.schedule.specs.declared.Part.{Part}
use Rattle.schedule.specs.TickRule as Rule
use Rattle.machine.specs.declared.jobs.Job.{Job}
use Rattle.machine.specs.declared.jobs.Job.TheVariants.{Closed, Waiting, Ready}
use Rattle.machine.specs.declared.jobs.JobTable.{JobTable}
use Rattle.machine.specs.declared.layout.Layout.{Layout}
use Rattle.parts.specs.Parts.{parts_of}
use Rattle.machine.specs.Jobs.{meant, fits}
use Rattle.machine.proofs.Tables.{all_same}

module _ (ps : List Part) where
  -- No job is open where every record is closed.
  pub closed_all : (n m : ℕ) → n ≤ m → map (meant ps) (take n (replicate m Closed)) ≡ Rule.all_closed n
  closed_all zero m h = refl
  closed_all (suc n) zero h = absurd (omega arith)
  closed_all (suc n) (suc m) h = ap {B = List Rule.Job} (λ js. Rule.closed ∷ js) (closed_all n m (omega arith))

  -- The job of a task is what its record means.
  pub meant_job : (n : ℕ) (jobs : List Job) (i : ℕ) → i < n → get_or (map (meant ps) (take n jobs)) i Rule.closed ≡ meant ps (get_or jobs i Closed)
  meant_job zero jobs i h = absurd (omega arith)
  meant_job (suc n) [] i h = refl
  meant_job (suc n) (j ∷ js) zero h = refl
  meant_job (suc n) (j ∷ js) (suc i) h = meant_job n js i (omega arith)

  -- A record that is changed changes its task's job alone.
  pub meant_set : (n : ℕ) (jobs : List Job) (i : ℕ) (j : Job) → map (meant ps) (take n (set jobs i j)) ≡ set (map (meant ps) (take n jobs)) i (meant ps j)
  meant_set zero jobs i j = refl
  meant_set (suc n) [] i j = refl
  meant_set (suc n) (x ∷ xs) zero j = refl
  meant_set (suc n) (x ∷ xs) (suc i) j = ap {B = List Rule.Job} (λ js. meant ps x ∷ js) (meant_set n xs i j)

  -- Where one record is replaced by one that fits, all fit.
  pub fits_set : (jobs : List Job) (i : ℕ) (j : Job) → ((k : ℕ) → fits ps (get_or jobs k Closed) ≡ true) → fits ps j ≡ true → (k : ℕ) → fits ps (get_or (set jobs i j) k Closed) ≡ true
  fits_set jobs i j all here k = elim (cases_lt i (length jobs)) [
    | inl h ↦ elim (cases_eq k i) [
      | inl e ↦ subst (λ (z : ℕ). fits ps (get_or (set jobs i j) z Closed) ≡ true) (sym e) (subst (λ (x : Job). fits ps x ≡ true) (sym (get_or-set_same jobs i j Closed h)) here)
      | inr ne ↦ subst (λ (x : Job). fits ps x ≡ true) (sym (get_or-set_other jobs i k j Closed ne)) (all k)
    ]
    | inr h ↦ subst (λ (xs : List Job). fits ps (get_or xs k Closed) ≡ true) (sym (set_past jobs i j h)) (all k)
  ]

  -- Only a closed record means a closed job.
  pub open_meant : (j : Job) → (j ≡ Closed → ⊥) → Rule.is_closed (meant ps j) ≡ false
  open_meant Closed ne = absurd (ne refl)
  open_meant (Waiting age part) ne = refl
  open_meant (Ready age left part) ne = refl

-- Where every record is closed, all fit.
pub all_closed : (l : Layout) (table : JobTable) → table.jobs ≡ replicate 32 Closed → record { whole : length table.jobs ≡ 32; fitting : (i : ℕ) → fits (parts_of l.list) (get_or table.jobs i Closed) ≡ true }
all_closed l table e = record {
  whole = ap length e;
  fitting = λ i. ap (λ (js : List Job). fits (parts_of l.list) (get_or js i Closed)) e ∙ ap (fits (parts_of l.list)) (all_same 32 i Closed);
}
