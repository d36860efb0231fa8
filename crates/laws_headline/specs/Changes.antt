-- Changes of what is foreign to a caller, and that they show it nothing new (own rules).
use Rattle.std.specs.Prelude.{◌≡◌, ℕ, Bool, true, false, List, ◌∷◌, ◌++◌, IfSome}
use Rattle.std.specs.Str.{bytes_eq}
use Rattle.std.specs.List.{AllByRecursion}
use Rattle.sorted_lists.specs.Keys.{item_at}
use Rattle.wl_entry.specs.Entitled.{is_entitled}
use Rattle.wl_entry.specs.Keys.{svid_key}
use Rattle.wl_entry.specs.declared.asks.Ask.{Ask}
use Rattle.wl_entry.specs.declared.entries.Entry.{Entry}
use Rattle.wl_entry.specs.declared.bundles.Bundle.{Bundle}
use Rattle.wl_entry.specs.declared.signing.Signed.{Signed}
use Rattle.wl_document.specs.States.{State}
use Rattle.wl_snapshot.specs.Snapshots.{Publication, IsPublication}
use Rattle.wl_snapshot.specs.Views.{is_seen}
use Rattle.svid_cache.specs.Caches.{lasts}
use Rattle.wl_store.specs.declared.tickets.Flight.{Flight}
use Rattle.wl_store.specs.Stores.{after_claim, after_signed}
use Rattle.wl_store.specs.Steps.{Stored, stored_of, stored_after, after_sync, after_failed}
use Rattle.laws_headline.specs.Own.{own_entries, own_bundles, AgreeOnOwn}

-- ---- lists of entries and of bundles

-- One list of entries has a foreign entry more: it was added, or, read the other way, removed.
abbrev pub ForeignEntryAdded : Type 0
ForeignEntryAdded =
    (selectors : List (List ℕ)) (front back : List Entry) (e : Entry) → is_entitled selectors e ≡ false
    → own_entries selectors (front ++ back) ≡ own_entries selectors (front ++ e ∷ back)

-- a foreign entry in the place of another
abbrev pub ForeignEntryChanged : Type 0
ForeignEntryChanged =
    (selectors : List (List ℕ)) (front back : List Entry) (e f : Entry) → is_entitled selectors e ≡ false → is_entitled selectors f ≡ false
    → own_entries selectors (front ++ e ∷ back) ≡ own_entries selectors (front ++ f ∷ back)

-- a bundle more that is neither the own domain's nor that of a domain with which the caller's entries federate
abbrev pub ForeignBundleAdded : Type 0
ForeignBundleAdded =
    (domain : List ℕ) (own : List Entry) (front back : List Bundle) (b : Bundle) → is_seen domain own b ≡ false
    → own_bundles domain own (front ++ back) ≡ own_bundles domain own (front ++ b ∷ back)

-- such a bundle in the place of another
abbrev pub ForeignBundleChanged : Type 0
ForeignBundleChanged =
    (domain : List ℕ) (own : List Entry) (front back : List Bundle) (b c : Bundle) → is_seen domain own b ≡ false → is_seen domain own c ≡ false
    → own_bundles domain own (front ++ b ∷ back) ≡ own_bundles domain own (front ++ c ∷ back)

-- ---- steps of a store, whose last publication is p

-- the store after the step has published this
abbrev pub PublishesNothingNew : List (List ℕ) → Publication → Stored → Type 0
PublishesNothingNew selectors p after = AgreeOnOwn selectors p after.published

-- a document has the same own entries and bundles: it adds, changes and removes foreign ones alone
pub record HasSameOwn (selectors : List (List ℕ)) (p : Publication) (d : State) : Type 0 where
  pub entries : own_entries selectors p.entries ≡ own_entries selectors d.entries
  pub bundles : own_bundles p.domain (own_entries selectors p.entries) p.bundles ≡ own_bundles p.domain (own_entries selectors p.entries) d.bundles

abbrev pub ForeignSyncs : Type 0
ForeignSyncs =
    (selectors : List (List ℕ)) (strict : Bool) (p : Publication) (renew_before : ℕ) (in_flight : List Flight) (last : ℕ) (d : State)
    → IsPublication p → HasSameOwn selectors p d
    → PublishesNothingNew selectors p (stored_after (after_sync d (stored_of strict p renew_before in_flight last)) (stored_of strict p renew_before in_flight last))

-- the SVIDs of these entries have not ended at this time
abbrev pub OwnLast : ℕ → Publication → List Entry → Type 0
OwnLast now p entries = AllByRecursion (λ (e : Entry). IfSome (item_at svid_key p.svids e.id) (λ v. lasts now v ≡ true)) entries

-- A claim at any time at which none of its own SVIDs has ended, whatever foreign ones end and are asked for then.
abbrev pub ForeignClaims : Type 0
ForeignClaims =
    (selectors : List (List ℕ)) (strict : Bool) (p : Publication) (renew_before : ℕ) (in_flight : List Flight) (last now : ℕ)
    → OwnLast now p (own_entries selectors p.entries)
    → PublishesNothingNew selectors p (stored_after (after_claim now (stored_of strict p renew_before in_flight last).store) (stored_of strict p renew_before in_flight last))

-- none of these entries has this id
abbrev pub NoneHas : List ℕ → List Entry → Type 0
NoneHas id entries = AllByRecursion (λ (e : Entry). bytes_eq id e.id ≡ false) entries

-- an identity for a foreign entry, whether or not it is fit
abbrev pub ForeignSignings : Type 0
ForeignSignings =
    (selectors : List (List ℕ)) (strict : Bool) (p : Publication) (renew_before : ℕ) (in_flight : List Flight) (last now ticket : ℕ) (ask : Ask) (signed : Signed)
    → NoneHas ask.entry_id (own_entries selectors p.entries)
    → PublishesNothingNew selectors p (stored_after (after_signed now ticket ask signed (stored_of strict p renew_before in_flight last).store) (stored_of strict p renew_before in_flight last))

-- an ask that failed
abbrev pub ForeignFailures : Type 0
ForeignFailures =
    (selectors : List (List ℕ)) (strict : Bool) (p : Publication) (renew_before : ℕ) (in_flight : List Flight) (last ticket : ℕ)
    → PublishesNothingNew selectors p (after_failed ticket (stored_of strict p renew_before in_flight last))
