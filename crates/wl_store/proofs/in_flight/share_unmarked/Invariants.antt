use Rattle.std.proofs.Common.{◌≡◌, take}
use Rattle.wl_store.specs.Flights.{unmarked}
use Rattle.wl_store.proofs.in_flight.share_unmarked.Given as goal

abbrev pub invariant-loop-i : goal.invariant-loop-i
invariant-loop-i l = l.flights.items ≡ unmarked (take l.i l.all) (take l.i l.marks)
