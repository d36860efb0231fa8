-- What a caller sees of a publication (own rules after the SPIRE agent).
use Rattle.std.specs.Prelude.{◌≡◌, ℕ, ◌≤◌, ◌||◌, Bool, true, List, map, filter, length, Some, is_some, IfSome, option_to_list, slice_get}
use Rattle.std.specs.Str.{bytes_eq}
use Rattle.std.specs.List.{list_all, list_any, flat_map, AllByRecursion}
use Rattle.list_laws.specs.Lists.{Rises}
use Rattle.sorted_lists.specs.Keys.{item_at}
use Rattle.wl_entry.specs.Asks.{is_ask_of}
use Rattle.wl_entry.specs.Entitled.{is_entitled}
use Rattle.wl_entry.specs.Keys.{entry_key, svid_key, bundle_key}
use Rattle.wl_entry.specs.Limits.{EntryWithin, BundleWithin, SignedWithin}
use Rattle.wl_entry.specs.declared.limits.TheConstants.{MAX_ENTRIES, MAX_BUNDLES}
use Rattle.wl_entry.specs.declared.entries.Entry.{Entry}
use Rattle.wl_entry.specs.declared.signing.Svid.{Svid}
use Rattle.wl_entry.specs.declared.bundles.Bundle.{Bundle}
use Rattle.wl_snapshot.specs.Snapshots.{Publication}
use Rattle.wl_snapshot.specs.declared.views.Held.{Held}

-- what a caller sees: the own domain, the entries to which it is entitled, each with its SVID, and bundles
pub record ViewModel : Type 0 where
  pub domain : List ℕ
  pub held : List Held
  pub bundles : List Bundle

-- an entry with its kept SVID or none
unfoldable pub held_of : List Svid → Entry → Held
held_of svids e = record { entry = e; svid = item_at svid_key svids e.id }

-- one of these entries federates with the domain
unfoldable pub is_federated : List Entry → List ℕ → Bool
is_federated entries domain = list_any (λ e. list_any (λ other. bytes_eq other domain) e.federates_with) entries

-- the bundle of the own domain, or of one with which these entries federate
unfoldable pub is_seen : List ℕ → List Entry → Bundle → Bool
is_seen own entries b = bytes_eq b.domain own || is_federated entries b.domain

-- the view of a publication that is made of these entries
unfoldable pub view_model_of : Publication → List Entry → ViewModel
view_model_of p entries = record { domain = p.domain; held = map (held_of p.svids) entries; bundles = filter (is_seen p.domain entries) p.bundles }

-- the view of a caller with these selectors
unfoldable pub view_in : Publication → List (List ℕ) → ViewModel
view_in p selectors = view_model_of p (filter (is_entitled selectors) p.entries)

-- the entries at these places, counted from 0
unfoldable pub entries_at : List Entry → List ℕ → List Entry
entries_at entries places = flat_map (λ place. option_to_list (slice_get entries place)) places

-- no entry lacks its SVID
abbrev pub has_svid : Held → Bool
has_svid h = is_some h.svid

unfoldable pub is_whole : ViewModel → Bool
is_whole v = list_all has_svid v.held

-- ---- the facts that every view has

abbrev pub held_key : Held → List ℕ
held_key h = h.entry.id

-- the ask of its SVID is the entry's
abbrev pub IsAskedFor : Held → Type 0
IsAskedFor h = IfSome h.svid (λ s. is_ask_of h.entry s.ask ≡ true)

pub record HeldWithin (h : Held) : Type 0 where
  pub entry : EntryWithin h.entry
  pub svid : IfSome h.svid (λ s. SignedWithin s.signed)

pub record IsViewModel (v : ViewModel) : Type 0 where
  pub held : Rises (map held_key v.held)
  pub bundles : Rises (map bundle_key v.bundles)
  pub asked : AllByRecursion IsAskedFor v.held
  pub few_held : length v.held ≤ MAX_ENTRIES
  pub few_bundles : length v.bundles ≤ MAX_BUNDLES
  pub held_within : AllByRecursion HeldWithin v.held
  pub bundles_within : AllByRecursion BundleWithin v.bundles

-- entries that a view of a publication can be made of: they are among its entries, in their order
pub record ChosenFrom (p : Publication) (entries : List Entry) : Type 0 where
  pub rises : Rises (map entry_key entries)
  pub found : AllByRecursion (λ e. item_at entry_key p.entries e.id ≡ Some e) entries
  pub within : AllByRecursion EntryWithin entries
  pub few : length entries ≤ MAX_ENTRIES
