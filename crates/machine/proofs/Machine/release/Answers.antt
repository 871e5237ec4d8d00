use Rattle.std.proofs.Common.{◌≡◌, ℕ, ◌<◌, ◌≤◌, true, false, not, eqb, is_ok, sym, refl, ap, ◌∙◌, subst, arith}
use Rattle.std.proofs.lemmas.Bool.{eqb-true, eqb-false, ne_eqb, true≢false}
use Rattle.tasks.specs.Arrivals.{Admitted}
use Rattle.tasks.specs.Numbers.{as_numbered}
use Rattle.tasks.specs.Sets.{count_of}
use Rattle.machine.specs.Meaning.{GoesOn}
use Rattle.tasks.proofs.Orderings.{lawful_order}
use Rattle.machine.proofs.Living.{life_goes_on, refused_life}
use Rattle.machine.proofs.Obeying
use Rattle.machine.proofs.Machine.release.Given as given
use Rattle.machine.proofs.Machine.release.Goals as goal

-- What is left in one tick is 0 or 1.
most : (g : given.Over) (rule : g.row.R.Denot) (i : ℕ) → g.R.ArrivalRule.left rule (as_numbered i) 1 ≤ 1
most g rule i =
    let low : as_numbered i < 32 = omega arith in
    omega (arith, (g.met.R.ArrivalRule.lefts rule (as_numbered i) low).within 1 (omega arith), (g.met.R.ArrivalRule.curves rule (as_numbered i) low).single)

pub returns-then-task-count-clause-life : goal.returns-then-task-count-clause-life
returns-then-task-count-clause-life g c =
    let m = c.args.self.now in
    let none : count_of m.dispatcher.layout.set ≤ c.args.task = omega (arith, c.count.ensures) in
    refused_life g.O.PriorityOrder.before g.R.ArrivalRule.curve g.R.ArrivalRule.left m _ _ (lawful_order g.met.O.PriorityOrder m.order) (g.met.R.ArrivalRule.curves m.rule)
    (Obeying.unknown_released m.dispatcher.layout (g.O.PriorityOrder.before m.order) (g.R.ArrivalRule.curve m.rule) (g.R.ArrivalRule.left m.rule) m.dispatcher.table m.clock c.args.task none)

pub returns-then-not-is_open : goal.returns-then-not-is_open
returns-then-not-is_open g c =
    let m = c.args.self.now in
    let known : c.args.task < count_of m.dispatcher.layout.set = omega (arith, c.count.ensures) in
    let left = g.R.ArrivalRule.left m.rule in
    let shut : eqb (left (as_numbered c.args.task) 1) 1 ≡ false = sym c.if-not-is_open.ensures in
    let ne = eqb-false (left (as_numbered c.args.task) 1) 1 shut in
    let obeyed = Obeying.too_soon m.dispatcher.layout (g.O.PriorityOrder.before m.order) (g.R.ArrivalRule.curve m.rule) left m.dispatcher.table m.clock c.args.task known (omega (arith, most g m.rule c.args.task, ne)) in
    record {
      obeyed = obeyed;
      own = refl;
      same = record { layout = refl; order = refl; curves = λ i L h. refl };
      refused = λ e. refl;
      life = refused_life g.O.PriorityOrder.before g.R.ArrivalRule.curve g.R.ArrivalRule.left m _ _ (lawful_order g.met.O.PriorityOrder m.order) (g.met.R.ArrivalRule.curves m.rule) obeyed;
    }

pub returns : goal.returns
returns g c =
    let m = c.args.self.now in
    let h = c.happen.ensures in
    let known : c.args.task < count_of m.dispatcher.layout.set = omega (arith, c.count.ensures) in
    let left = g.R.ArrivalRule.left m.rule in
    let one : left (as_numbered c.args.task) 1 ≡ 1 = eqb-true (left (as_numbered c.args.task) 1) 1 (sym c.if-not-is_open.ensures) in
    let some : left (as_numbered c.args.task) 1 ≡ 0 → ⊥ = λ z. omega arith in
    let took : is_ok c.admit.result ≡ true = c.admit.ensures.answer ∙ ap not (ne_eqb (left (as_numbered c.args.task) 1) 0 some) in
    let obeyed = Obeying.obeyed_on m.dispatcher.layout c.happen.new.self.layout h.layout _ _ _ _ _ _ (g.R.ArrivalRule.left c.admit.new.self)
    (Obeying.released m.dispatcher.layout (g.O.PriorityOrder.before m.order) (g.R.ArrivalRule.curve m.rule) left m.dispatcher.table m.clock
    c.happen.new.self.table (g.R.ArrivalRule.left c.admit.new.self) c.args.task _ known some
    (subst (λ b. Admitted b (as_numbered c.args.task) left (g.R.ArrivalRule.left c.admit.new.self)) took c.admit.ensures.left_falls) h.others h.meaning) in
    let goes : GoesOn m _ g.R.ArrivalRule.curve = record { layout = h.layout; order = refl; curves = c.admit.ensures.curves_stay } in
    record {
      obeyed = obeyed;
      own = tt;
      same = goes;
      refused = λ e. absurd (true≢false e);
      life = life_goes_on g.O.PriorityOrder.before g.R.ArrivalRule.curve g.R.ArrivalRule.left m _ _ _ (lawful_order g.met.O.PriorityOrder m.order) (g.met.R.ArrivalRule.curves m.rule) goes (λ ranked. obeyed);
    }
