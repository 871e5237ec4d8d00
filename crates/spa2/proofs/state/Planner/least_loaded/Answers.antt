use Rattle.std.proofs.Common.{◌≡◌, Option, rules, sym, subst, ◌∙◌}
use Rattle.std.proofs.lemmas.Iterator.{YieldsList-from_slice}
use Rattle.std.proofs.lemmas.Iterator.Consumers.{YieldsList-at, YieldsList-from_filter, YieldsList-from_enumerate}
use Rattle.std.specs.Option.{option_map}
use borrow.Author.Tests.{tests}
use Rattle.spa2.specs.declared.state.seats.Seat.{Seat}
use Rattle.spa2.specs.Choices.{least_loaded_seat, LeastOpen}
use Rattle.spa2.proofs.Least.{least_by_key, shown, seat_of, opened}
use Rattle.spa2.proofs.Scans.{least_open}
use Rattle.spa2.proofs.state.Planner.least_loaded.Goals as goal

pub returns : goal.returns
returns c =
    let xs = c.args.self.now.processors.now in
    let found = least_by_key _ _ c.min_by_key.result xs c.min_by_key.ensures.ran
    (YieldsList-from_filter _ opened
    (YieldsList-at c.filter.ensures.source (YieldsList-from_enumerate (YieldsList-at c.enumerate.ensures.source (YieldsList-from_slice xs c.iter.ensures.rest)) c.enumerate.ensures.count))
    c.filter.ensures.closure (λ x b q k. search (rules, tests))) (λ x k q h. search (rules, tests)) in
    let same : c.map.result ≡ option_map (λ p. seat_of (shown p)) c.min_by_key.result = search rules in
    let value : c.map.result ≡ least_loaded_seat xs = same ∙ found in
    record { value = value; least = subst (λ (o : Option Seat). LeastOpen xs o) (sym value) (least_open xs) }
