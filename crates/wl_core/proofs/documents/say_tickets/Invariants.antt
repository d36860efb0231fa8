use Rattle.std.proofs.Common.{◌≡◌, ◌++◌, map, take}
use Rattle.wl_store.specs.Flights.{flights_of}
use Rattle.wl_core.specs.Lines.{ticket_line}
use Rattle.wl_core.proofs.documents.say_tickets.Given as goal

-- the lines of the tickets so far
abbrev pub invariant-loop-ticket : goal.invariant-loop-ticket
invariant-loop-ticket l = l.lines ≡ l.fn.lines ++ map ticket_line (flights_of (take l.ticket-index l.tickets))
