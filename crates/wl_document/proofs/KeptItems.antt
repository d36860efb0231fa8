-- What is kept of an array: each item at its own key, no more of them than the array has, and within the limits.
use Rattle.std.proofs.Common.{◌≡◌, ℕ, ◌+◌, ◌≤◌, ◌∙◌, List, [], ◌∷◌, length, Result, Ok, subst, arith}
use Rattle.std.specs.List.{AllByRecursion}
use Rattle.std.specs.Map.{values_of}
use Rattle.std.specs.BTreeMap.{insert_entry}
use Rattle.std.specs.Ordering.{nat_cmp, match_ordering}
use Rattle.std.specs.declared.cmp.Ordering.{Ordering}
use Rattle.std.specs.declared.cmp.Ordering.TheVariants.{Less, Equal, Greater}
use Rattle.std.specs.Cmp.Lexicographic.{slice_cmp}
use Rattle.wl_document.proofs.Common.{Data, Bundle, Entry, each_from, Kept, put, DocFault, NoOwnBundle, DocSvid, ok_is}
use Rattle.wl_entry.specs.Limits.{EntryWithin, BundleWithin}
use Rattle.wl_document.specs.Kept.{kept_has, kept_at, KeptWithin}
use Rattle.wl_entry.specs.Keys.{bundle_key, entry_key}
use Rattle.wl_document.specs.Svids.{doc_svid_key}
use Rattle.wl_document.specs.States.{SvidWithin}
use Rattle.wl_document.specs.Documents.{has_x509}
use Rattle.wl_document.specs.Walks.{bundle_beside, kept_bundles, kept_own_bundles, entry_beside, kept_entries, svid_beside, kept_svids}
use Rattle.list_laws.proofs.Results.{bind_then, when_ok}
use Rattle.wl_document.proofs.Orders.{keyed_put, keyed_none}
use Rattle.wl_document.proofs.Withins.{bundle_within, entry_within, svid_within}

module _ {X : Type 0} (P : X → Type 0) (key : List ℕ) (x : X) where
  few_after : (o : Ordering) (e : List ℕ × X) (es more : Kept X) → length more ≤ length es + 1 → length (match_ordering o ((key, x) ∷ e ∷ es) ((e.0, x) ∷ es) (e ∷ more)) ≤ length (e ∷ es) + 1
  few_after Less e es more h = omega arith
  few_after Equal e es more h = omega arith
  few_after Greater e es more h = omega (arith, h)

  few_entry : (kept : Kept X) → length (insert_entry (slice_cmp nat_cmp) kept key x) ≤ length kept + 1
  few_entry [] = omega arith
  few_entry (e ∷ es) = few_after (slice_cmp nat_cmp key e.0) e es (insert_entry (slice_cmp nat_cmp) es key x) (few_entry es)

  each_after : (o : Ordering) (e : List ℕ × X) (es more : Kept X) → P x → P e.1 → AllByRecursion P (values_of es) → AllByRecursion P (values_of more) → AllByRecursion P (values_of (match_ordering o ((key, x) ∷ e ∷ es) ((e.0, x) ∷ es) (e ∷ more)))
  each_after Less e es more new first others after = (new, (first, others))
  each_after Equal e es more new first others after = (new, others)
  each_after Greater e es more new first others after = (first, after)

  each_entry : (kept : Kept X) → P x → AllByRecursion P (values_of kept) → AllByRecursion P (values_of (insert_entry (slice_cmp nat_cmp) kept key x))
  each_entry [] new all = (new, tt)
  each_entry (e ∷ es) new all = each_after (slice_cmp nat_cmp key e.0) e es (insert_entry (slice_cmp nat_cmp) es key x) new all.0 all.1 (each_entry es new all.1)

module _ {X : Type 0} (key : X → List ℕ) (P : X → Type 0) where
  within_put : (n : ℕ) (kept : Kept X) (x : X) → P x → KeptWithin key P n kept → KeptWithin key P (n + 1) (put kept (key x) x)
  unfolding put
  within_put n kept x new h = record {
    keyed = keyed_put key kept x h.keyed;
    few = omega (arith, few_entry P (key x) x kept, h.few);
    each = each_entry P (key x) x kept new h.each;
  }

  within_walk : (read : ℕ → Kept X → Data → Result X DocFault) → ((i : ℕ) (kept : Kept X) (d : Data) (x : X) → read i kept d ≡ Ok x → P x) → (n i : ℕ) (kept : Kept X) (ds : List Data) (all : Kept X) → KeptWithin key P n kept → each_from read (λ kept x. put kept (key x) x) i kept ds ≡ Ok all → KeptWithin key P (n + length ds) all
  unfolding each_from
  within_walk read good n i kept [] all h is = subst (KeptWithin key P (n + 0)) (ok_is is) (record { keyed = h.keyed; few = omega (arith, h.few); each = h.each })
  within_walk read good n i kept (d ∷ ds) all h is =
      bind_then (read i kept d) _ all is
      (λ x was last.
      let rest = within_walk read good (n + 1) (i + 1) (put kept (key x) x) ds all (within_put n kept x (good i kept d x was) h) last in
      record { keyed = rest.keyed; few = omega (arith, rest.few); each = rest.each })

  within_all : (read : ℕ → Kept X → Data → Result X DocFault) → ((i : ℕ) (kept : Kept X) (d : Data) (x : X) → read i kept d ≡ Ok x → P x) → (n : ℕ) (ds : List Data) (all : Kept X) → length ds ≤ n → each_from read (λ kept x. put kept (key x) x) 0 [] ds ≡ Ok all → KeptWithin key P n all
  within_all read good n ds all few is =
      let h = within_walk read good 0 0 [] ds all (record { keyed = keyed_none key; few = omega arith; each = tt }) is in
      record { keyed = h.keyed; few = omega (arith, h.few, few); each = h.each }

bundles_within : (ds : List Data) (all : Kept Bundle) → length ds ≤ 1024 → kept_bundles ds ≡ Ok all → KeptWithin bundle_key BundleWithin 1024 all
unfolding kept_bundles bundle_beside
bundles_within ds all few is = within_all bundle_key BundleWithin bundle_beside (λ i kept d b was. bundle_within i (kept_has kept) d b was) 1024 ds all few is

pub own_bundles_within : (own : List ℕ) (ds : List Data) (all : Kept Bundle) → length ds ≤ 1024 → kept_own_bundles own ds ≡ Ok all → KeptWithin bundle_key BundleWithin 1024 all
unfolding kept_own_bundles
own_bundles_within own ds all few is =
    bind_then (kept_bundles ds) _ all is
    (λ kept was last. when_ok (has_x509 (kept_at kept own)) NoOwnBundle (Ok kept) all last
    (λ has same. bundles_within ds all few (was ∙ same)))

pub entries_within : (own : List ℕ) (version : ℕ) (ds : List Data) (all : Kept Entry) → length ds ≤ 10000 → kept_entries own version ds ≡ Ok all → KeptWithin entry_key EntryWithin 10000 all
unfolding kept_entries entry_beside
entries_within own version ds all few is = within_all entry_key EntryWithin (entry_beside own version) (λ i kept d e was. entry_within own version i (kept_has kept) d e was) 10000 ds all few is

pub svids_within : (ds : List Data) (all : Kept DocSvid) → length ds ≤ 10000 → kept_svids ds ≡ Ok all → KeptWithin doc_svid_key SvidWithin 10000 all
unfolding kept_svids svid_beside
svids_within ds all few is = within_all doc_svid_key SvidWithin svid_beside (λ i kept d s was. svid_within i (kept_has kept) d s was) 10000 ds all few is
