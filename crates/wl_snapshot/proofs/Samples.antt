-- A publication of one entry.
use Rattle.std.proofs.Common.{◌≡◌, ℕ, List, [], ◌∷◌, Some, refl, sym, ap, ◌∙◌, subst, arith}
use Rattle.std.specs.Prelude.{IsSomeAnd, length, ◌≤◌, true}
use Rattle.std.specs.List.{AllByRecursion}
use Rattle.std.specs.List.Sorted.{IsStrictlySortedBy}
use Rattle.list_laws.specs.Lists.{Rises}
use Rattle.list_laws.specs.Keys.{item_at}
use Rattle.list_laws.proofs.Keys.{found_all}
use Rattle.wl_entry.proofs.Sames.{ask_self}
use Rattle.wl_entry.specs.declared.asks.Ask.{Ask}
use Rattle.wl_entry.specs.declared.bundles.Bundle.{Bundle}
use Rattle.wl_entry.specs.declared.entries.Entry.{Entry}
use Rattle.wl_entry.specs.declared.signing.Svid.{Svid}
use Rattle.wl_entry.specs.declared.limits.TheConstants.{MAX_ENTRIES, MAX_BUNDLES}
use Rattle.wl_entry.specs.Asks.{ask_of, is_ask_of}
use Rattle.wl_entry.specs.Keys.{entry_key}
use Rattle.wl_entry.specs.Limits.{EntryWithin, BundleWithin, SignedWithin}
use Rattle.wl_snapshot.specs.Snapshots.{Publication, IsPublication, IsAsked}

-- one key rises
one_rises : (k : List ℕ) → Rises (k ∷ [])
unfolding IsStrictlySortedBy
one_rises k = (tt, tt)

one_asked : (e : Entry) (s : Svid) → s.ask ≡ ask_of e → IsAsked (e ∷ []) s
one_asked e s is =
    let found = (found_all entry_key (e ∷ []) (one_rises e.id)).0 in
    let same : item_at entry_key (e ∷ []) s.ask.entry_id ≡ Some e = ap (λ (a : Ask). item_at entry_key (e ∷ []) a.entry_id) is ∙ found in
    subst (λ o. IsSomeAnd o (λ f. is_ask_of f s.ask ≡ true)) (sym same) (ap (is_ask_of e) is ∙ ask_self (ask_of e))

of_one : (n : ℕ) (domain : List ℕ) (e : Entry) (s : Svid) (b : Bundle) → EntryWithin e → s.ask ≡ ask_of e → SignedWithin s.signed → BundleWithin b → IsPublication (record { number = n; domain = domain; entries = e ∷ []; svids = s ∷ []; bundles = b ∷ [] })
of_one n domain e s b entry is signed bundle =
    record {
      entries = one_rises e.id;
      svids = one_rises s.ask.entry_id;
      bundles = one_rises b.domain;
      asked = (one_asked e s is, tt);
      few_entries = omega arith;
      few_bundles = omega arith;
      entries_within = (entry, tt);
      svids_within = (signed, tt);
      bundles_within = (bundle, tt);
    }

-- an entry, its SVID and a bundle
pub one_entry : (p : Publication) (e : Entry) (s : Svid) (b : Bundle) → p.entries ≡ e ∷ [] → p.svids ≡ s ∷ [] → p.bundles ≡ b ∷ [] → EntryWithin e → s.ask ≡ ask_of e → SignedWithin s.signed → BundleWithin b → IsPublication p
one_entry p e s b entries svids bundles entry is signed bundle =
    subst IsPublication (sym (λ i. record { number = p.number; domain = p.domain; entries = entries i; svids = svids i; bundles = bundles i })) (of_one p.number p.domain e s b entry is signed bundle)
