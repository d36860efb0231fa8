-- What entries, asks, SVIDs and bundles are put in order by.
use Rattle.std.specs.Prelude.{ℕ, List}
use Rattle.wl_entry.specs.declared.asks.Ask.{Ask}
use Rattle.wl_entry.specs.declared.entries.Entry.{Entry}
use Rattle.wl_entry.specs.declared.signing.Svid.{Svid}
use Rattle.wl_entry.specs.declared.bundles.Bundle.{Bundle}

-- an entry by its id
abbrev pub entry_key : Entry → List ℕ
entry_key e = e.id

-- an ask and an SVID by the id of the entry
abbrev pub ask_key : Ask → List ℕ
ask_key a = a.entry_id

abbrev pub svid_key : Svid → List ℕ
svid_key s = s.ask.entry_id

-- a bundle by its domain
abbrev pub bundle_key : Bundle → List ℕ
bundle_key b = b.domain
