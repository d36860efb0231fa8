-- Asks of entries.
use Rattle.std.specs.Prelude.{Bool}
use Rattle.wl_entry.specs.declared.asks.Ask.{Ask}
use Rattle.wl_entry.specs.declared.entries.Entry.{Entry}
use Rattle.wl_entry.specs.Same.{same_ask}

-- what is to be signed for an entry; its hint isn't part of that
abbrev pub ask_of : Entry → Ask
ask_of e = record { entry_id = e.id; spiffe_id = e.spiffe_id; dns_names = e.dns_names; ttl = e.ttl }

-- the ask is the entry's
abbrev pub is_ask_of : Entry → Ask → Bool
is_ask_of e a = same_ask (ask_of e) a
