-- A store: what is kept, and the last publication.
use Rattle.std.specs.Prelude.{◌≡◌, ℕ, ◌≤◌, Bool, true, false, if◌then◌else◌, List, map, length, Option, Some, None, unwrap_or}
use Rattle.std.specs.List.{AllByRecursion}
use Rattle.list_laws.specs.Lists.{Rises}
use Rattle.wl_entry.specs.Keys.{entry_key, bundle_key}
use Rattle.wl_entry.specs.Limits.{EntryWithin, BundleWithin}
use Rattle.wl_entry.specs.declared.asks.Ask.{Ask}
use Rattle.wl_entry.specs.declared.entries.Entry.{Entry}
use Rattle.wl_entry.specs.declared.bundles.Bundle.{Bundle}
use Rattle.wl_entry.specs.declared.signing.Signed.{Signed}
use Rattle.wl_entry.specs.declared.signing.Svid.{Svid}
use Rattle.wl_x509.specs.Leaves.{NamesAsk}
use Rattle.wl_document.specs.States.{State}
use Rattle.wl_snapshot.specs.Snapshots.{Publication}
use Rattle.svid_cache.specs.declared.install.Installed.{Installed}
use Rattle.svid_cache.specs.Caches.{Cached}
use Rattle.svid_cache.specs.Timetables.{Times, IsAbout}
use Rattle.wl_store.specs.declared.tickets.Change.{Change}
use Rattle.wl_store.specs.declared.tickets.Change.TheVariants as change
use Rattle.wl_store.specs.declared.tickets.Flight.{Flight}
use Rattle.wl_store.specs.Stores.{Store, svids_after, first_store, with_entries, asks_of, cached_of, publish, next_publication, shows, without_ticket}

pub record Stored : Type 0 where
  pub store : Store
  pub published : Publication

-- a store that begins with a document's state
abbrev pub first_stored : Bool → State → Stored
first_stored strict d =
    record { store = first_store strict d.entries d.bundles d.renew_before; published = publish 0 d.domain (first_store strict d.entries d.bundles d.renew_before) }

-- this is kept now, and published where it differs from the last publication
abbrev pub stored_after : Store → Stored → Stored
stored_after s m = record { store = s; published = next_publication m.published s }

-- whether there is a new publication
abbrev pub change_to : Store → Stored → Change
change_to s m = if shows m.published s then change.Same else change.New

-- a document was read
abbrev pub after_sync : State → Stored → Store
after_sync d m = with_entries d.entries d.bundles d.renew_before m.store

-- a ticket is spent, and nothing else changes
abbrev pub after_failed : ℕ → Stored → Stored
after_failed n m = record { store = without_ticket n m.store; published = m.published }

-- ---- what every store keeps

-- what entries and bundles are published
pub record IsStock (es : List Entry) (bs : List Bundle) : Type 0 where
  pub entries : Rises (map entry_key es)
  pub bundles : Rises (map bundle_key bs)
  pub few_entries : length es ≤ 10000
  pub few_bundles : length bs ≤ 1024
  pub entries_within : AllByRecursion EntryWithin es
  pub bundles_within : AllByRecursion BundleWithin bs

-- an identity is vouched for its ask, and in a strict store its leaf names the ask and has its times
abbrev pub Trusted : (Ask → Signed → Type 0) → Bool → Ask → Signed → Type 0
Trusted signed strict a g = signed a g × (strict ≡ true → NamesAsk a g)

abbrev pub AllTrusted : (Ask → Signed → Type 0) → Bool → List Svid → Type 0
AllTrusted signed strict svids = AllByRecursion (λ s. Trusted signed strict s.ask s.signed) svids

-- what every store keeps beside its last publication: its timetable has the asks of the published entries and is about
-- the published SVIDs, and its index is of the published entries
pub record IsKept (signed : Ask → Signed → Type 0) (strict : Bool) (p : Publication) (t : Times) (index : List Entry) : Type 0 where
  pub asks : t.asks ≡ asks_of p.entries
  pub about : IsAbout t p.svids
  pub indexed : index ≡ p.entries
  pub trusted : AllTrusted signed strict p.svids

-- the asks and SVIDs that a step gives, or else those that are kept now
abbrev pub kept_after : Option Cached → Store → Cached
kept_after c s = unwrap_or c (cached_of s)

-- the cache after Install has answered: its asks and its `renew_before` stay, its SVIDs are those that Install leaves and
-- are trusted
pub record IsInstalled (signed : Ask → Signed → Type 0) (s : Store) (v : Svid) (i : Installed) (c : Cached) : Type 0 where
  pub asks : c.asks ≡ asks_of s.entries
  pub svids : c.svids ≡ svids_after i v s.svids
  pub renew_before : c.renew_before ≡ s.renew_before
  pub trusted : AllTrusted signed s.strict c.svids

-- ---- what the calls answer

-- the new publication, where there is one
abbrev pub news : Change → Publication → Option Publication
news change.Same p = None
news change.New p = Some p

-- what is kept with these parts in place of the old ones
abbrev pub with_parts : List Entry → List Bundle → Cached → List Flight → ℕ → Store → Store
with_parts entries bundles c in_flight last_ticket s =
    record { strict = s.strict; entries = entries; bundles = bundles; svids = c.svids; renew_before = c.renew_before; in_flight = in_flight; last_ticket = last_ticket }

-- what the fields of a store are
abbrev pub stored_of : Bool → Publication → ℕ → List Flight → ℕ → Stored
stored_of strict p renew_before in_flight last_ticket =
    record {
      store = record { strict = strict; entries = p.entries; bundles = p.bundles; svids = p.svids; renew_before = renew_before; in_flight = in_flight; last_ticket = last_ticket };
      published = p;
    }
