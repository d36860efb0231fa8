use Rattle.std.proofs.Common.{◌≡◌, ◌+◌, ◌++◌, drop}
use Rattle.wl_store.specs.Stores.{flights_from}
use Rattle.wl_store.proofs.flights.add_flights.Given as goal

abbrev pub invariant-loop-ask : goal.invariant-loop-ask
invariant-loop-ask l = record { made : l.in_flight.items ++ flights_from l.number (drop l.ask-index l.asks) ≡ l.fn.in_flight.items ++ flights_from l.last_ticket l.asks; count : l.number ≡ l.last_ticket + l.ask-index }
