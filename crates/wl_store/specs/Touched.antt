-- Which entries a step touched (own rule).
use Rattle.std.specs.Prelude.{ℕ, Bool, false, not, List, map, filter, Option, Some, None, is_some}
use Rattle.list_laws.specs.Keys.{item_at}
use Rattle.wl_entry.specs.Keys.{entry_key, svid_key}
use Rattle.wl_entry.specs.Same.{same_entry}
use Rattle.wl_entry.specs.declared.entries.Entry.{Entry}
use Rattle.wl_entry.specs.declared.signing.Svid.{Svid}
use Rattle.svid_cache.specs.Caches.{lasts}

-- what there is is this entry
abbrev pub is_entry : Option Entry → Entry → Bool
is_entry None e = false
is_entry (Some f) e = same_entry f e

-- the ids of the entries that are not among the later ones as they are
unfoldable pub ids_gone : List Entry → List Entry → List (List ℕ)
ids_gone before after = map entry_key (filter (λ e. not (is_entry (item_at entry_key after e.id) e)) before)

-- the ids of the later entries that no earlier one has
unfoldable pub ids_new : List Entry → List Entry → List (List ℕ)
ids_new before after = map entry_key (filter (λ e. not (is_some (item_at entry_key before e.id))) after)

-- the ids of the SVIDs that have expired
unfoldable pub ids_ended : ℕ → List Svid → List (List ℕ)
ids_ended now svids = map svid_key (filter (λ s. not (lasts now s)) svids)
