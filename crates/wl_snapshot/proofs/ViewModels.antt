-- A view of a publication has the facts that every view has.
use Rattle.std.specs.Prelude.{◌≡◌, true, List, Option, Some, None, IfSome, IsSomeAnd}
use Rattle.std.proofs.Common.{arith, refl, sym, ◌∙◌, ap, subst}
use Rattle.std.proofs.lemmas.List.{length-map}
use Rattle.list_laws.specs.Lists.{Rises}
use Rattle.sorted_lists.specs.Keys.{item_at}
use Rattle.sorted_lists.proofs.Selections.{rises_filter, all_filter, length_filter, rises_map, all_map, both_all}
use Rattle.sorted_lists.proofs.SearchResults.{found_has}
use Rattle.wl_entry.specs.Asks.{is_ask_of}
use Rattle.wl_entry.specs.Keys.{entry_key, svid_key, bundle_key}
use Rattle.wl_entry.specs.Limits.{EntryWithin, BundleWithin, SignedWithin}
use Rattle.wl_entry.specs.declared.entries.Entry.{Entry}
use Rattle.wl_entry.specs.declared.signing.Svid.{Svid}
use Rattle.wl_snapshot.specs.Snapshots.{Publication, IsPublication, IsAsked, SvidWithin}
use Rattle.wl_snapshot.specs.Views.{IsViewModel, ChosenFrom, HeldWithin, IsAskedFor, held_of, held_key, is_seen, view_model_of}

same_key : (svids : List Svid) (e : Entry) → held_key (held_of svids e) ≡ entry_key e
unfolding held_of
same_key svids e = refl

asked_of : (entries : List Entry) (e : Entry) (found : Option Svid) → item_at entry_key entries e.id ≡ Some e → IfSome found (λ s. (IsAsked entries s × SvidWithin s) × (svid_key s ≡ e.id)) → IfSome found (λ s. is_ask_of e s.ask ≡ true)
asked_of entries e None own has = tt
asked_of entries e (Some s) own has =
    subst (λ o. IsSomeAnd o (λ f. is_ask_of f s.ask ≡ true)) (ap (λ k. item_at entry_key entries k) has.1 ∙ own) has.0.0

within_of : (entries : List Entry) (e : Entry) (found : Option Svid) → IfSome found (λ s. (IsAsked entries s × SvidWithin s) × (svid_key s ≡ e.id)) → IfSome found (λ s. SignedWithin s.signed)
within_of entries e None has = tt
within_of entries e (Some s) has = has.0.1

held_asked : (p : Publication) → IsPublication p → (e : Entry) → item_at entry_key p.entries e.id ≡ Some e → IsAskedFor (held_of p.svids e)
unfolding held_of
held_asked p is e own = asked_of p.entries e (item_at svid_key p.svids e.id) own (found_has (λ s. IsAsked p.entries s × SvidWithin s) svid_key p.svids e.id (both_all (IsAsked p.entries) SvidWithin p.svids is.asked is.svids_within))

held_within : (p : Publication) → IsPublication p → (e : Entry) → EntryWithin e → HeldWithin (held_of p.svids e)
unfolding held_of
held_within p is e within = record { entry = within; svid = within_of p.entries e (item_at svid_key p.svids e.id) (found_has (λ s. IsAsked p.entries s × SvidWithin s) svid_key p.svids e.id (both_all (IsAsked p.entries) SvidWithin p.svids is.asked is.svids_within)) }

pub view_model_holds : (p : Publication) (entries : List Entry) → IsPublication p → ChosenFrom p entries → IsViewModel (view_model_of p entries)
unfolding view_model_of
view_model_holds p entries is chosen = record {
  held = subst Rises (sym (rises_map entry_key held_key (held_of p.svids) (same_key p.svids) entries)) chosen.rises;
  bundles = rises_filter bundle_key (is_seen p.domain entries) p.bundles is.bundles;
  asked = all_map (λ e. item_at entry_key p.entries e.id ≡ Some e) IsAskedFor (held_of p.svids) (held_asked p is) entries chosen.found;
  few_held = omega (arith, chosen.few, length-map entries (held_of p.svids));
  few_bundles = omega (arith, length_filter (is_seen p.domain entries) p.bundles, is.few_bundles);
  held_within = all_map EntryWithin HeldWithin (held_of p.svids) (held_within p is) entries chosen.within;
  bundles_within = all_filter BundleWithin (is_seen p.domain entries) p.bundles is.bundles_within;
}
