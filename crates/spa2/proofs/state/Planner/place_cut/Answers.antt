use Rattle.std.proofs.Common.{◌≡◌, ℕ, ◌+◌, ◌<◌, Bool, true, cond, List, ◌∷◌, length, is_ok, ap, ◌∙◌, arith}
use Rattle.std.proofs.lemmas.Bool.{leb-false, lt-ltb}
use Rattle.tasks.specs.Sets.{period_of}
use Rattle.tasks.proofs.Sets.{period_scaled}
use Rattle.front.specs.Fronts.{listed}
use Rattle.spa2.specs.declared.piece.Piece.{Piece}
use Rattle.spa2.specs.Loads.{load_of, cut_of}
use Rattle.spa2.specs.Placing.{State, processor_at, number_of, threshold, tasks_of, cut_at}
use Rattle.spa2.specs.Seen.{seen}
use Rattle.spa2.proofs.Rounding.{cut_within}
use Rattle.spa2.proofs.Splits.{split_made}
use Rattle.spa2.proofs.state.Planner.place_cut.Goals as goal

pub returns-clause-after : goal.returns-clause-after
returns-clause-after c =
    let s = seen c.args.self.now in
    let set = c.args.set.now in
    let x = c.args.piece in
    let p = number_of c.args.choice in
    let n = c.number-number.result in
    let T = period_of set x.task in
    let theta = threshold (tasks_of set) in
    let load = (processor_at s n).load in
    let period : c.period-period.result ≡ T = c.period-period.ensures ∙ ap (λ (i : ℕ). period_of set i) c.from.ensures in
    let cut : c.cut_cost.result ≡ cut_at (tasks_of set) s x n =
    c.cut_cost.ensures ∙ (ap (λ (v : ℕ). cut_of v load c.period-period.result) c.threshold_of.ensures.value ∙ ap (λ (v : ℕ). cut_of theta load v) period) in
    let over : theta < (processor_at s p).load + load_of x.cost T = leb-false _ _ c.requires.cut in
    let same : cut_at (tasks_of set) s x n ≡ cut_at (tasks_of set) s x p = ap (λ (k : ℕ). cut_at (tasks_of set) s x k) c.number-number.ensures in
    let within = cut_within theta (processor_at s p).load x.cost T (period_scaled set x.task).0 over in
    let listed-parts = c.list_cut.ensures in
    let rest = c.cut.result.1.piece in
    let pieces = ap (λ (z : State). z.pieces) listed-parts in
    let few : length (listed c.list_cut.new.self.pieces) < 32 = omega (arith, ap (λ (xs : List Piece). length xs) pieces, c.requires.ready.cuttable) in
    let ok : is_ok c.put_back.result ≡ true = c.put_back.ensures.answer ∙ lt-ltb _ _ (omega (arith, few, c.list_cut.new.self.spacious)) in
    let put : listed c.put_back.new.pieces ≡ rest ∷ s.pieces =
    c.put_back.ensures.after ∙ (ap (λ (b : Bool). cond b (rest ∷ listed c.list_cut.new.self.pieces) (listed c.list_cut.new.self.pieces)) ok ∙ ap (λ (xs : List Piece). rest ∷ xs) pieces) in
    let task : c.cut.result.0.task ≡ x.task = ap (λ (y : Piece). y.task) c.cut.ensures.first in
    split_made (tasks_of set) s _ x c.cut.result.0 rest c.args.choice n c.cut_cost.result c.load.result
    c.number-number.ensures cut (omega (arith, cut, same, within)) c.cut.ensures.first c.cut.ensures.rest
    (c.load.ensures.value ∙ ap (λ (i : ℕ). load_of c.cut.result.0.cost (period_of set i)) task)
    (ap (λ (z : State). z.processors) listed-parts) put (ap (λ (z : State). z.reserve) listed-parts) (ap (λ (z : State). z.parts) listed-parts)
