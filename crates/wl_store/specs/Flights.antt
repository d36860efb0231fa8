-- Tickets and their flights.
use Rattle.std.specs.Prelude.{Bool, List, [], ◌∷◌, map, if◌then◌else◌}
use Rattle.wl_store.specs.declared.tickets.Ticket.{Ticket}
use Rattle.wl_store.specs.declared.tickets.Flight.{Flight}

abbrev pub flight_of : Ticket → Flight
flight_of t = record { number = t.number; ask = t.ask }

abbrev pub flights_of : List Ticket → List Flight
flights_of tickets = map flight_of tickets

-- the flights that are not marked
abbrev pub unmarked : List Flight → List Bool → List Flight
unmarked [] marks = []
unmarked (f ∷ fs) [] = []
unmarked (f ∷ fs) (mark ∷ marks) = if mark then unmarked fs marks else f ∷ unmarked fs marks
