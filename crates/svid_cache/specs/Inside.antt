-- What a timetable is made of.
use Rattle.std.specs.Prelude.{List, [], Option, Some, None}
use Rattle.wl_entry.specs.declared.asks.Ask.{Ask}

-- the asks, none before the first are reported
abbrev pub asks_in : Option (List Ask) → List Ask
asks_in None = []
asks_in (Some asks) = asks
