use Rattle.std.proofs.Common.{◌≡◌, ℕ, true, Option, subst, arith}
use Rattle.parts.specs.Parts.{parts_of}
use Rattle.machine.specs.Jobs.{in_time}
use Rattle.machine.proofs.Ageing.{some_in_time, held, part_works, fits_ready}
use Rattle.machine.proofs.jobs.steps.begun.Goals as goal

pub returns-else-age-placed-clause-fitting : goal.returns-else-age-placed-clause-fitting
returns-else-age-placed-clause-fitting c =
    let l = c.args.layout.now in
    let ps = parts_of l.list in
    let k = c.in-Some.part in
    let t = some_in_time ps c.args.age k (subst (λ (o : Option ℕ). in_time ps c.args.age o ≡ true) c.in-Some.is c.requires) in
    let d = held l k t.0 in
    fits_ready ps c.args.age _ k t.0 (omega (arith, d.begin)) t.1 (omega (arith, d.cost, part_works l k t.0))
