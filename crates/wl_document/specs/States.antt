-- What a state holds, and the facts that every state has.
use Rattle.std.specs.Prelude.{ℕ, ◌≤◌, List, map, length}
use Rattle.std.specs.List.{AllByRecursion}
use Rattle.list_laws.specs.Lists.{Rises}
use Rattle.wl_entry.specs.Limits.{EntryWithin, BundleWithin}
use Rattle.wl_entry.specs.declared.bundles.Bundle.{Bundle}
use Rattle.wl_entry.specs.declared.entries.Entry.{Entry}
use Rattle.wl_entry.specs.Keys.{bundle_key, entry_key}
use Rattle.wl_entry.specs.declared.limits.TheConstants.{MAX_ENTRIES, MAX_BUNDLES, MAX_ID_LEN}
use Rattle.wl_document.specs.declared.limits.TheConstants.{MAX_SVIDS}
use Rattle.wl_document.specs.Svids.{doc_svid_key}
use Rattle.wl_document.specs.declared.state.DocSvid.{DocSvid}

-- `renew_before` is the second since which identities and tokens have to be signed, or else they are replaced
pub record State : Type 0 where
  pub domain : List ℕ
  pub bundles : List Bundle
  pub entries : List Entry
  pub svids : List DocSvid
  pub renew_before : ℕ

-- a signed identity is named by an entry's id
pub record SvidWithin (s : DocSvid) : Type 0 where
  pub entry_id : length s.entry_id ≤ MAX_ID_LEN

-- Each list ascends by its key, so that the keys are distinct, and nothing passes the limits (own rules).
pub record Within (s : State) : Type 0 where
  pub bundles : Rises (map bundle_key s.bundles)
  pub entries : Rises (map entry_key s.entries)
  pub svids : Rises (map doc_svid_key s.svids)
  pub few_bundles : length s.bundles ≤ MAX_BUNDLES
  pub few_entries : length s.entries ≤ MAX_ENTRIES
  pub few_svids : length s.svids ≤ MAX_SVIDS
  pub bundles_within : AllByRecursion BundleWithin s.bundles
  pub entries_within : AllByRecursion EntryWithin s.entries
  pub svids_within : AllByRecursion SvidWithin s.svids
