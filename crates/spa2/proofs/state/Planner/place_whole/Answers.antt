use Rattle.std.proofs.Common.{◌≡◌, ℕ, ◌+◌, ◌≤◌, ap, arith}
use Rattle.std.proofs.lemmas.Bool.{leb-true}
use Rattle.tasks.specs.Sets.{count_of, period_of}
use Rattle.spa2.specs.Loads.{load_of}
use Rattle.spa2.specs.Placing.{processor_at, number_of, threshold, tasks_of}
use Rattle.spa2.specs.Seen.{seen}
use Rattle.spa2.proofs.Table.{theta_whole}
use Rattle.spa2.proofs.state.Planner.place_whole.Goals as goal

pub overflow_add-self : goal.overflow_add-self
overflow_add-self c =
    let s = seen c.args.self.now in
    let set = c.args.set.now in
    let x = c.args.piece in
    let at : (processor_at s c.number-number.result).load ≡ (processor_at s (number_of c.args.choice)).load = ap (λ (k : ℕ). (processor_at s k).load) c.number-number.ensures in
    let fits : (processor_at s (number_of c.args.choice)).load + load_of x.cost (period_of set x.task) ≤ threshold (tasks_of set) = leb-true _ _ c.requires.whole in
    omega (arith, at, c.load.ensures.value, fits, theta_whole (count_of set))
