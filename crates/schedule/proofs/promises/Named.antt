-- Which task an event names, and on which processor.
use Rattle.std.proofs.Common.{◌≡◌, ℕ, ◌<◌, true, false, eqb, [], get_or, sym, ap, ◌∙◌, inl, inr, arith}
use Rattle.std.proofs.lemmas.Bool.{cases_eq, cases_lt, eq-eqb, ne_eqb}
use Rattle.schedule.specs.Lists.{one_if}
use Rattle.schedule.specs.Layout.{System}
use Rattle.schedule.specs.TickRule.{State, runs_on, answer, tick, ran, Event}
use Rattle.schedule.specs.Promise.{bytes}
use Rattle.schedule.proofs.facts.Running.{answer_at, answer_past}
use Rattle.schedule.proofs.promises.Follows.{Names}

-- An event with no bytes names nobody.
pub names_quiet : (i : ℕ) (e : Event) → (i ≡ 255 → ⊥) → bytes e ≡ [] → Names i e false 0
names_quiet i e n h = record {
  at = λ p. ap (λ bs. one_if (eqb (get_or bs p 255) i)) h ∙ ap one_if (ne_eqb 255 i (λ e. n (sym e)));
}

-- What a tick names, from what each processor runs.
pub names_none : (sys : System) (s : State) (r i : ℕ) → (i ≡ 255 → ⊥) → ((p : ℕ) → p < sys.procs → runs_on sys s p ≡ i → ⊥) →
    Names i (tick r, ran (answer sys s)) false 0
names_none sys s r i n h = record {
  at = λ p. elim (cases_lt p sys.procs) [
    | inl a ↦ ap (λ x. one_if (eqb x i)) (answer_at sys s p a) ∙ ap one_if (ne_eqb _ _ (h p a))
    | inr a ↦ ap (λ x. one_if (eqb x i)) (answer_past sys s p a) ∙ ap one_if (ne_eqb 255 i (λ e. n (sym e)))
  ];
}

pub names_one : (sys : System) (s : State) (r i q : ℕ) → (i ≡ 255 → ⊥) → q < sys.procs → runs_on sys s q ≡ i →
    ((p : ℕ) → p < sys.procs → runs_on sys s p ≡ i → q ≡ p) → Names i (tick r, ran (answer sys s)) true q
names_one sys s r i q n k e h = record {
  at = λ p. elim (cases_lt p sys.procs) [
    | inl a ↦ ap (λ x. one_if (eqb x i)) (answer_at sys s p a) ∙ same p a
    | inr a ↦ ap (λ x. one_if (eqb x i)) (answer_past sys s p a) ∙ (ap one_if (ne_eqb 255 i (λ e. n (sym e))) ∙ sym (ap one_if (ne_eqb q p (omega arith))))
  ];
}
  where
    same : (p : ℕ) → p < sys.procs → one_if (eqb (runs_on sys s p) i) ≡ one_if (eqb q p)
    same p a = elim (cases_eq q p) [
      | inl f ↦ ap one_if (eq-eqb _ _ (ap (runs_on sys s) (sym f) ∙ e)) ∙ sym (ap one_if (eq-eqb q p f))
      | inr f ↦ ap one_if (ne_eqb _ _ (λ g. f (h p a g))) ∙ sym (ap one_if (ne_eqb q p f))
    ]
