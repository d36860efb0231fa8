-- Tickets in flight, by entry.
use Rattle.std.specs.Prelude.{ℕ, List, map, filter}
use Rattle.std.specs.Str.{bytes_eq}
use Rattle.wl_entry.specs.declared.asks.Ask.{Ask}
use Rattle.wl_store.specs.declared.tickets.Flight.{Flight}

-- what a ticket in flight was issued for
abbrev pub flight_ask : Flight → Ask
flight_ask f = f.ask

-- the asks of an entry that have a ticket in flight
unfoldable pub asks_under : List ℕ → List Flight → List Ask
asks_under id in_flight = map flight_ask (filter (λ f. bytes_eq f.ask.entry_id id) in_flight)
