-- Who is entitled to an entry (SPIRE registration entries).
use Rattle.std.specs.Prelude.{ℕ, Bool, List}
use Rattle.wl_selector.specs.Selectors.{has_texts}
use Rattle.wl_entry.specs.declared.entries.Entry.{Entry}

-- A caller is entitled to an entry where every selector of the entry is among its own.
unfoldable pub is_entitled : List (List ℕ) → Entry → Bool
is_entitled selectors e = has_texts selectors e.selectors
