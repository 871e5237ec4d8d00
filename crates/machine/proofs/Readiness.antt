-- Ready words, task by task.
use Rattle.std.proofs.Common.{◌≡◌, ℕ, suc, ◌+◌, ◌^◌, ◌<◌, Bool, true, false, ◌&&◌, ◌||◌, eqb, ltb, leb, List, length, get_or, set, sym, refl, ap, ◌∙◌, inl, inr, arith}
use lib.Bits.{bit_or}
use Rattle.std.proofs.lemmas.Bool.{cases_eq, and_from, and_left, and_right, eq-eqb, ne_eqb, le-leb, lt-leb, lt-ltb}
use Rattle.schedule.specs.declared.Part.{Part}
use Rattle.schedule.specs.TickRule.{ready_on}
use Rattle.plan.specs.Checks.{part_at}
use Rattle.parts.specs.Parts.{parts_of}
use Rattle.machine.specs.declared.jobs.Job.{Job}
use Rattle.machine.specs.declared.jobs.Job.TheVariants.{Closed, Waiting, Ready}
use Rattle.machine.specs.declared.jobs.JobTable.{JobTable}
use Rattle.machine.specs.declared.layout.Layout.{Layout}
use Rattle.machine.specs.Jobs.{meant, fits}
use Rattle.machine.specs.Placing.{begin_at}
use Rattle.machine.specs.Layouts.{ready_as, word_up_to}
use Rattle.machine.specs.Words.{some_below}
use Rattle.machine.proofs.Ageing.{waiting_fits, ready_fits}
use Rattle.machine.proofs.Bits.{word_same, word_or}
use Rattle.machine.proofs.Tables.{written}

-- Of the records that fit, just the ready ones are ready, each on its part's processor.
pub ready_waiting : (ps : List Part) (age part p : ℕ) → fits ps (Waiting age part) ≡ true → ready_on p (meant ps (Waiting age part)) ≡ false
ready_waiting ps age part p f = and_right _ _ (and_left _ _ (lt-leb _ _ (waiting_fits ps age part f).1))

pub ready_ready : (ps : List Part) (age left part p : ℕ) → fits ps (Ready age left part) ≡ true → ready_on p (meant ps (Ready age left part)) ≡ eqb (part_at ps part).processor p
ready_ready ps age left part p f =
    let r = ready_fits ps age left part f in
    let begun : (leb (begin_at ps part) age && ltb 0 left) ≡ true = and_from _ _ (le-leb _ _ r.1) (lt-ltb _ _ r.3) in
    go (eqb (part_at ps part).processor p) (leb (begin_at ps part) age && ltb 0 left) begun
  where
    go : (a b : Bool) → b ≡ true → (a && b) ≡ a
    go true b e = e
    go false b e = refl

pub ready_not : (ps : List Part) (j : Job) (p : ℕ) → fits ps j ≡ true → ((age left part : ℕ) → j ≡ Ready age left part → ⊥) → ready_on p (meant ps j) ≡ false
ready_not ps Closed p f ne = refl
ready_not ps (Waiting age part) p f ne = ready_waiting ps age part p f
ready_not ps (Ready age left part) p f ne = absurd (ne age left part refl)

-- One number more to look at.
pub some_more : (n : ℕ) (t : ℕ → Bool) → some_below (n + 1) t ≡ (some_below n t || t n)
some_more n t = let up : n + 1 ≡ suc n = omega arith in ap (λ (k : ℕ). some_below k t) up

or_nothing : (a b : Bool) → b ≡ false → (a || b) ≡ a
or_nothing true b e = refl
or_nothing false b e = e

and_all : (a b : Bool) → b ≡ true → (a && b) ≡ a
and_all true b e = e
and_all false b e = refl

module _ (l : Layout) (table : JobTable) (p n : ℕ) where
  -- A task that is not ready there leaves the word as it is.
  pub word_idle : ready_on p (meant (parts_of l.list) (get_or table.jobs n Closed)) ≡ false → word_up_to l table p (n + 1) ≡ word_up_to l table p n
  word_idle e = word_same _ _ 32 (λ r h. some_more n (ready_as l table p r) ∙ or_nothing (some_below n (ready_as l table p r)) (ready_as l table p r n) (and_right _ _ e))

  -- One that is ready sets the bit of its rank.
  pub word_ready : ready_on p (meant (parts_of l.list) (get_or table.jobs n Closed)) ≡ true → get_or l.ranks n 0 < 32 →
      word_up_to l table p (n + 1) ≡ bit_or (word_up_to l table p n) (2 ^ get_or l.ranks n 0)
  word_ready e h =
      word_same _ _ 32 (λ r lt. some_more n (ready_as l table p r) ∙ ap (λ (b : Bool). some_below n (ready_as l table p r) || b) (and_all (eqb (get_or l.ranks n 0) r) _ e))
      ∙ sym (word_or (λ r. some_below n (ready_as l table p r)) 32 (get_or l.ranks n 0) h)

-- The words so far.
abbrev pub WordsSoFar : Layout → JobTable → ℕ → List ℕ → Type 0
WordsSoFar l table n words = (p : ℕ) → p < 8 → get_or words p 0 ≡ word_up_to l table p n

pub words_idle : (l : Layout) (table : JobTable) (n : ℕ) (words : List ℕ) → WordsSoFar l table n words →
    ((p : ℕ) → ready_on p (meant (parts_of l.list) (get_or table.jobs n Closed)) ≡ false) → WordsSoFar l table (n + 1) words
words_idle l table n words w e p h = w p h ∙ sym (word_idle l table p n (e p))

pub words_ready : (l : Layout) (table : JobTable) (n q : ℕ) (words : List ℕ) → WordsSoFar l table n words → length words ≡ 8 → q < 8 → get_or l.ranks n 0 < 32 →
    ((p : ℕ) → ready_on p (meant (parts_of l.list) (get_or table.jobs n Closed)) ≡ eqb q p) →
    WordsSoFar l table (n + 1) (set words q (bit_or (get_or words q 0) (2 ^ get_or l.ranks n 0)))
words_ready l table n q words w whole hq hr e p h = elim (cases_eq q p) [
  | inl same ↦
      let here : ready_on p (meant (parts_of l.list) (get_or table.jobs n Closed)) ≡ true = e p ∙ eq-eqb q p same in
      written words q p _ 0 (omega arith)
      ∙ rw (eq-eqb q p same) (ap (λ (x : ℕ). bit_or x (2 ^ get_or l.ranks n 0)) (ap (λ (z : ℕ). get_or words z 0) same ∙ w p h))
      ∙ sym (word_ready l table p n here hr)
  | inr other ↦
      written words q p _ 0 (omega arith)
      ∙ rw (ne_eqb q p other) (w p h)
      ∙ sym (word_idle l table p n (e p ∙ ne_eqb q p other))
]
