use Rattle.std.proofs.Common.{◌≡◌, drop}
use Rattle.wl_store.specs.Flights.{unmarked}
use Rattle.wl_store.specs.Stores.{has_ticket}
use Rattle.wl_store.proofs.in_flight.is_unmarked.Given as goal

abbrev pub invariant-loop-i : goal.invariant-loop-i
invariant-loop-i l = has_ticket l.ticket.number l.ticket.ask (unmarked (drop l.i l.all) (drop l.i l.marks)) ≡ has_ticket l.ticket.number l.ticket.ask (unmarked l.all l.marks)
