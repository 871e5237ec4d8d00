-- What the limits of sizes and refill times tell.
use Rattle.std.proofs.Common.{◌≡◌, ℕ, ◌<◌, ◌≤◌, Bool, true, false, not, ◌&&◌, ◌||◌, leb, List, length, get_or, Option, Some, None, sym, refl, arith}
use Rattle.std.specs.Bool.{then_some}
use Rattle.std.specs.Option.{option_or, option_map}
use Rattle.tasks.proofs.Searches.{none_where}
use Rattle.tasks.specs.declared.fault.SetFault.TheVariants.{OffScale}
use Rattle.std.proofs.lemmas.Bool.Decides.{nat_tests}
use Rattle.tasks.specs.Arrivals.{AllSubadditive}
use Rattle.tasks.specs.Searches.{first_where}
use Rattle.tasks.specs.Sets.{miscounted, on_scale}
use Rattle.rules.specs.Buckets.{Bucket, off_limits, bucket_fault, bucket_curve}
use Rattle.rules.specs.Pacing.{Paced, AllPaced}
use Rattle.rules.specs.Refills.{full_paced, full_subadditive}
use Rattle.rules.specs.Regulators.{of_each_task}
use Rattle.rules.specs.Tokens.{tokens_curve}
use Rattle.rules.specs.declared.tokens.Tokens.{Tokens}
use Rattle.schedule.specs.Curves.{Subadditive}

-- where nothing is wrong, each task's size and refill time are within their limits
pub within_limits : (sizes refills : List ℕ) → bucket_fault sizes refills ≡ None → (i : ℕ) → i < length sizes →
    (1 ≤ get_or sizes i 0) × ((get_or sizes i 0 ≤ 1000) × ((1 ≤ get_or refills i 0) × (get_or refills i 0 ≤ 100000)))
within_limits sizes refills e i h =
    let off = off_limits sizes refills in
    let n = length sizes in
    limits (get_or sizes i 0) (get_or refills i 0) (none_where off n (none (miscounted sizes refills) (first_where off n) e) i h)
  where
    none : (wrong : Bool) (o : Option ℕ) → option_or (then_some wrong (OffScale 0)) (option_map OffScale o) ≡ None → o ≡ None
    none true o e = cc
    none false None e = refl
    none false (Some k) e = cc

    limits : (size refill : ℕ) → (not (leb 1 size && leb size 1000) || not (on_scale refill)) ≡ false →
        (1 ≤ size) × ((size ≤ 1000) × ((1 ≤ refill) × (refill ≤ 100000)))
    limits size refill e = grind (arith, nat_tests)

pub no_fault : (sizes refills : List ℕ) → false ≡ miscounted sizes refills → None ≡ first_where (off_limits sizes refills) (length sizes) →
    bucket_fault sizes refills ≡ None
no_fault sizes refills count limits = rw (sym count, sym limits) refl

pub all_buckets_subadditive : (r : Bucket) → AllSubadditive (bucket_curve r)
all_buckets_subadditive r =
    let every = λ (t : Tokens). full_subadditive t.refill t.timed t.size t.sized in
    of_each_task tokens_curve tokens_curve (λ curve _. Subadditive curve) every r.regulators r.wide

pub all_buckets_paced : (r : Bucket) → AllPaced (bucket_curve r)
all_buckets_paced r =
    let every = λ (t : Tokens). full_paced t.refill t.timed t.size t.sized in
    of_each_task tokens_curve tokens_curve (λ curve _. Paced curve) every r.regulators r.wide
