-- What of a publication is a caller's own (own rules after the SPIRE agent): the domain, the entries to which its selectors
-- entitle it, their SVIDs, and the bundles of the own domain and of those with which these entries federate.
use Rattle.std.specs.Prelude.{◌≡◌, ℕ, List, filter}
use Rattle.std.specs.List.{AllByRecursion}
use Rattle.sorted_lists.specs.Keys.{item_at}
use Rattle.wl_entry.specs.Entitled.{is_entitled}
use Rattle.wl_entry.specs.Keys.{svid_key}
use Rattle.wl_entry.specs.declared.entries.Entry.{Entry}
use Rattle.wl_entry.specs.declared.signing.Svid.{Svid}
use Rattle.wl_entry.specs.declared.bundles.Bundle.{Bundle}
use Rattle.wl_snapshot.specs.Snapshots.{Publication}
use Rattle.wl_snapshot.specs.Views.{is_seen, view_in}

-- the entries to which these selectors entitle
abbrev pub own_entries : List (List ℕ) → List Entry → List Entry
own_entries selectors entries = filter (is_entitled selectors) entries

-- the bundle of this domain, and those of the domains with which these entries federate
abbrev pub own_bundles : List ℕ → List Entry → List Bundle → List Bundle
own_bundles domain entries bundles = filter (is_seen domain entries) bundles

-- of each of these entries both have the same SVID, or both have none
abbrev pub HaveSameSvids : List Svid → List Svid → List Entry → Type 0
HaveSameSvids xs ys entries = AllByRecursion (λ (e : Entry). item_at svid_key xs e.id ≡ item_at svid_key ys e.id) entries

-- two publications agree on what is the own of a caller with these selectors
pub record AgreeOnOwn (selectors : List (List ℕ)) (p q : Publication) : Type 0 where
  pub domain : p.domain ≡ q.domain
  pub entries : own_entries selectors p.entries ≡ own_entries selectors q.entries
  pub svids : HaveSameSvids p.svids q.svids (own_entries selectors p.entries)
  pub bundles : own_bundles p.domain (own_entries selectors p.entries) p.bundles ≡ own_bundles p.domain (own_entries selectors p.entries) q.bundles

-- then they show it the same
abbrev pub OwnDecidesViews : Type 0
OwnDecidesViews = (selectors : List (List ℕ)) (p q : Publication) → AgreeOnOwn selectors p q → view_in p selectors ≡ view_in q selectors

-- Two that agree with a third agree with each other: so agreement goes over any number of steps.
abbrev pub OwnIsShared : Type 0
OwnIsShared = (selectors : List (List ℕ)) (p q r : Publication) → AgreeOnOwn selectors p q → AgreeOnOwn selectors p r → AgreeOnOwn selectors q r
