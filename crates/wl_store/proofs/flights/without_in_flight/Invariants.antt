use Rattle.std.proofs.Common.{◌≡◌, not, filter, take}
use Rattle.wl_store.specs.Stores.{is_in_flight}
use Rattle.wl_store.proofs.flights.without_in_flight.Given as goal

abbrev pub invariant-loop-ask : goal.invariant-loop-ask
invariant-loop-ask l = l.left.items ≡ filter (λ a. not (is_in_flight l.in_flight a)) (take l.ask-index l.asks)
