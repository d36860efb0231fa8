use Rattle.std.proofs.Common.{◌≡◌, ◌+◌, ◌++◌, drop}
use Rattle.wl_store.specs.Stores.{flights_from}
use Rattle.wl_store.specs.Flights.{flights_of}
use Rattle.wl_store.proofs.flights.issue.Given as goal

abbrev pub invariant-loop-ask : goal.invariant-loop-ask
invariant-loop-ask l = record { made : flights_of l.tickets ++ flights_from l.number (drop l.ask-index l.asks) ≡ flights_from l.last_ticket l.asks; count : l.number ≡ l.last_ticket + l.ask-index }
