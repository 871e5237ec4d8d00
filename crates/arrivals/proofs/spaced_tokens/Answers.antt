use Rattle.std.proofs.Common.{subst}
use Rattle.rules.specs.Buckets.{Bucket, bucket_curve}
use Rattle.rules.specs.Pacing.{AllPaced}
use Rattle.rules.specs.Spacing.{Spaced, spaced_curve}
use Rattle.rules.specs.SpacingLemmas.{all_spaced_paced}
use Rattle.arrivals.proofs.spaced_tokens.Goals as goal

-- both rules are paced, so what they are joined to is subadditive
pub returns : goal.returns
returns c =
    let made = c.join.ensures.made in
    rw (made.0, made.1) (c.join.ensures.subadditive
    (subst (λ (x : Spaced). AllPaced (spaced_curve x)) made.0 (all_spaced_paced c.join.result.first))
    (subst (λ (x : Bucket). AllPaced (bucket_curve x)) made.1 (c.new.ensures.paced c.join.result.second)))
