-- Publications, and the facts that every one has (own rules after the SPIRE agent).
use Rattle.std.specs.Prelude.{◌≡◌, ℕ, ◌≤◌, true, List, map, length, IsSomeAnd}
use Rattle.std.specs.List.{AllByRecursion}
use Rattle.list_laws.specs.Lists.{Rises}
use Rattle.sorted_lists.specs.Keys.{item_at}
use Rattle.wl_entry.specs.Asks.{is_ask_of}
use Rattle.wl_entry.specs.Keys.{entry_key, svid_key, bundle_key}
use Rattle.wl_entry.specs.Limits.{EntryWithin, BundleWithin, SignedWithin}
use Rattle.wl_entry.specs.declared.limits.TheConstants.{MAX_ENTRIES, MAX_BUNDLES}
use Rattle.wl_entry.specs.declared.entries.Entry.{Entry}
use Rattle.wl_entry.specs.declared.signing.Svid.{Svid}
use Rattle.wl_entry.specs.declared.bundles.Bundle.{Bundle}

-- a publication: its number, the own domain, the entries, the kept SVIDs and the bundles
pub record Publication : Type 0 where
  pub number : ℕ
  pub domain : List ℕ
  pub entries : List Entry
  pub svids : List Svid
  pub bundles : List Bundle

-- the ask of an SVID is that of the entry whose SVID it is
abbrev pub IsAsked : List Entry → Svid → Type 0
IsAsked entries s = IsSomeAnd (item_at entry_key entries s.ask.entry_id) (λ e. is_ask_of e s.ask ≡ true)

abbrev pub SvidWithin : Svid → Type 0
SvidWithin s = SignedWithin s.signed

-- Entries and SVIDs rise by entry id and bundles by domain, so that there is at most one of each; each SVID's ask is
-- the ask of an entry; counts and lengths are within the limits of entries, bundles and signed identities.
pub record IsPublication (p : Publication) : Type 0 where
  pub entries : Rises (map entry_key p.entries)
  pub svids : Rises (map svid_key p.svids)
  pub bundles : Rises (map bundle_key p.bundles)
  pub asked : AllByRecursion (IsAsked p.entries) p.svids
  pub few_entries : length p.entries ≤ MAX_ENTRIES
  pub few_bundles : length p.bundles ≤ MAX_BUNDLES
  pub entries_within : AllByRecursion EntryWithin p.entries
  pub svids_within : AllByRecursion SvidWithin p.svids
  pub bundles_within : AllByRecursion BundleWithin p.bundles
