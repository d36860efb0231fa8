-- What is kept, and what each event makes of it (own rules after the SPIRE agent).
use Rattle.std.specs.Prelude.{ℕ, ◌+◌, ◌==◌, ◌&&◌, Bool, not, if◌then◌else◌, List, [], ◌∷◌, ◌++◌, map, filter, length, Option, Some, None, unwrap_or}
use Rattle.std.specs.List.{list_any}
use Rattle.std.specs.Cmp.Lexicographic.{pointwise}
use Rattle.wl_entry.specs.Asks.{ask_of}
use Rattle.wl_entry.specs.Same.{same_ask, same_entry, same_svid, same_bundle}
use Rattle.wl_entry.specs.Fitness.{signed_unfit}
use Rattle.wl_entry.specs.declared.asks.Ask.{Ask}
use Rattle.wl_entry.specs.declared.entries.Entry.{Entry}
use Rattle.wl_entry.specs.declared.bundles.Bundle.{Bundle}
use Rattle.wl_entry.specs.declared.signing.Signed.{Signed}
use Rattle.wl_entry.specs.declared.signing.Svid.{Svid}
use Rattle.wl_entry.specs.declared.unfit.Unfit.{Unfit}
use Rattle.wl_x509.specs.Leaves.{leaf_reason}
use Rattle.wl_snapshot.specs.Snapshots.{Publication}
use Rattle.svid_cache.specs.Caches.{Cached, with_asks, without_ended, due_asks, is_listed, kept_for, with_svid, unless_older}
use Rattle.svid_cache.specs.declared.install.Installed.{Installed}
use Rattle.svid_cache.specs.declared.install.Installed.TheVariants as installed
use Rattle.wl_store.specs.declared.tickets.Flight.{Flight}

-- what is kept: whether leaves are judged, the entries, the bundles, the SVIDs, the second since which these have to be
-- signed, the tickets in flight and the number of the last one
pub record Store : Type 0 where
  pub strict : Bool
  pub entries : List Entry
  pub bundles : List Bundle
  pub svids : List Svid
  pub renew_before : ℕ
  pub in_flight : List Flight
  pub last_ticket : ℕ

-- the asks of the entries
abbrev pub asks_of : List Entry → List Ask
asks_of entries = map ask_of entries

-- the asks and the SVIDs, and the second since which these have to be signed
abbrev pub cached_of : Store → Cached
cached_of s = record { asks = asks_of s.entries; svids = s.svids; renew_before = s.renew_before }

-- what is kept at first
abbrev pub first_store : Bool → List Entry → List Bundle → ℕ → Store
first_store strict entries bundles renew_before = record { strict = strict; entries = entries; bundles = bundles; svids = []; renew_before = renew_before; in_flight = []; last_ticket = 0 }

-- ---- a document was read

-- its entries, bundles and `renew_before`; the SVIDs stay whose ask is one of its entries'
unfoldable pub with_entries : List Entry → List Bundle → ℕ → Store → Store
with_entries entries bundles renew_before s =
    record {
      strict = s.strict;
      entries = entries;
      bundles = bundles;
      svids = (with_asks (asks_of entries) renew_before (cached_of s)).svids;
      renew_before = renew_before;
      in_flight = s.in_flight;
      last_ticket = s.last_ticket;
    }

-- ---- tickets are claimed

-- an ask with a ticket in flight
abbrev pub is_in_flight : List Flight → Ask → Bool
is_in_flight in_flight a = list_any (λ f. same_ask f.ask a) in_flight

-- the asks that are due once what has expired was let go, without those in flight
unfoldable pub asks_to_claim : ℕ → Store → List Ask
asks_to_claim now s = filter (λ a. not (is_in_flight s.in_flight a)) (due_asks now (without_ended now (cached_of s)))

-- one ticket each, numbered from n on
abbrev pub flights_from : ℕ → List Ask → List Flight
flights_from n [] = []
flights_from n (a ∷ more) = record { number = n + 1; ask = a } ∷ flights_from (n + 1) more

unfoldable pub after_claim : ℕ → Store → Store
after_claim now s =
    record {
      strict = s.strict;
      entries = s.entries;
      bundles = s.bundles;
      svids = (without_ended now (cached_of s)).svids;
      renew_before = s.renew_before;
      in_flight = s.in_flight ++ flights_from s.last_ticket (asks_to_claim now s);
      last_ticket = s.last_ticket + length (asks_to_claim now s);
    }

-- ---- a ticket comes back

-- a ticket of this number and ask is in flight
abbrev pub has_ticket : ℕ → Ask → List Flight → Bool
has_ticket n a in_flight = list_any (λ f. (f.number == n) && same_ask f.ask a) in_flight

-- the tickets without the first of this number
abbrev pub without_flight : ℕ → List Flight → List Flight
without_flight n [] = []
without_flight n (f ∷ fs) = if f.number == n then fs else f ∷ without_flight n fs

-- it is spent
unfoldable pub without_ticket : ℕ → Store → Store
without_ticket n s = record { strict = s.strict; entries = s.entries; bundles = s.bundles; svids = s.svids; renew_before = s.renew_before; in_flight = without_flight n s.in_flight; last_ticket = s.last_ticket }

-- a leaf is judged in a strict store alone
abbrev pub leaf_judged : Bool → Ask → Signed → Option Unfit
leaf_judged strict a g = if strict then leaf_reason a g else None

abbrev pub as_unfit : Option Unfit → Option Installed → Option Installed
as_unfit (Some u) rest = Some (installed.Unfit u)
as_unfit None rest = rest

-- the first reason against a signed identity that does not hang on the kept one: no entry has the ask, its times and
-- lengths, its leaf
unfoldable pub refusal : ℕ → Ask → Signed → Store → Option Installed
refusal now a g s =
    if is_listed (asks_of s.entries) a then as_unfit (signed_unfit now g) (as_unfit (leaf_judged s.strict a g) None)
    else Some installed.NoSuchAsk

-- Install: that reason, or that the kept one is still wanted and ends no earlier, or else it is kept
unfoldable pub install : ℕ → Ask → Signed → Store → Installed
install now a g s = unwrap_or (refusal now a g s) (unless_older s.renew_before now g (kept_for s.svids a))

-- the SVIDs after that
abbrev pub svids_after : Installed → Svid → List Svid → List Svid
svids_after installed.Kept v svids = with_svid v svids
svids_after _ v svids = svids

-- it comes back with a signed identity
unfoldable pub after_signed : ℕ → ℕ → Ask → Signed → Store → Store
after_signed now n a g s =
    record {
      strict = s.strict;
      entries = s.entries;
      bundles = s.bundles;
      svids = svids_after (install now a g s) (record { ask = a; signed = g }) s.svids;
      renew_before = s.renew_before;
      in_flight = without_flight n s.in_flight;
      last_ticket = s.last_ticket;
    }

-- ---- what is published

-- a publication shows these parts
abbrev pub shows_parts : Publication → List Entry → List Svid → List Bundle → Bool
shows_parts p entries svids bundles = pointwise same_entry p.entries entries && (pointwise same_svid p.svids svids && pointwise same_bundle p.bundles bundles)

-- a publication shows what is kept
unfoldable pub shows : Publication → Store → Bool
shows p s = shows_parts p s.entries s.svids s.bundles

-- the publication of this number
abbrev pub publish : ℕ → List ℕ → Store → Publication
publish number domain s = record { number = number; domain = domain; entries = s.entries; svids = s.svids; bundles = s.bundles }

-- the last publication, where p was the last one before
abbrev pub next_publication : Publication → Store → Publication
next_publication p s = if shows p s then p else publish (p.number + 1) p.domain s
