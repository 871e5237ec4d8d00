use Rattle.std.proofs.Common.{◌≡◌, ℕ, ◌-◌, ◌≤◌, get_or, sym, ap, subst}
use Rattle.spa2.specs.Thetas.{Threshold, thetas, as_counted}
use Rattle.spa2.proofs.Table.{theta_rule, theta_whole}
use Rattle.spa2.proofs.theta.theta.Goals as goal

pub returns : goal.returns
returns c =
    let found : get_or thetas (c.clamp.result - 1) 0 ≡ get_or thetas (as_counted c.args.tasks - 1) 0 = ap (λ (k : ℕ). get_or thetas (k - 1) 0) c.clamp.ensures in
    record { value = found; bound = subst (λ (v : ℕ). v ≤ 1000000) (sym found) (theta_whole c.args.tasks); rule = subst (λ (v : ℕ). Threshold (as_counted c.args.tasks) v) (sym found) (theta_rule c.args.tasks) }
