-- What is chosen from a publication by selectors or by places.
use Rattle.std.specs.Prelude.{◌≡◌, ℕ, ◌≤◌, ◌<◌, Bool, List, filter, length, slice_get, option_to_list, [], ◌∷◌, All, Option, Some, None}
use Rattle.std.specs.List.{flat_map}
use Rattle.std.specs.List.Sorted.{IsStrictlySortedBy}
use Rattle.std.specs.Ordering.{nat_cmp}
use Rattle.std.proofs.Common.{arith}
use Rattle.std.proofs.lemmas.List.{length-append}
use Rattle.std.proofs.lemmas.Map.Views.{length-le_from_below}
use Rattle.sorted_lists.specs.Keys.{item_at}
use Rattle.sorted_lists.proofs.Selections.{rises_filter, all_filter, length_filter, rises_places, all_places}
use Rattle.sorted_lists.proofs.SearchResults.{found_all}
use Rattle.wl_entry.specs.Keys.{entry_key}
use Rattle.wl_entry.specs.Limits.{EntryWithin}
use Rattle.wl_entry.specs.declared.entries.Entry.{Entry}
use Rattle.wl_snapshot.specs.Snapshots.{Publication, IsPublication}
use Rattle.wl_snapshot.specs.Views.{ChosenFrom, entries_at}

pub chosen_by : (p : Publication) (test : Entry → Bool) → IsPublication p → ChosenFrom p (filter test p.entries)
chosen_by p test is = record {
  rises = rises_filter entry_key test p.entries is.entries;
  found = all_filter (λ e. item_at entry_key p.entries e.id ≡ Some e) test p.entries (found_all entry_key p.entries is.entries);
  within = all_filter EntryWithin test p.entries is.entries_within;
  few = omega (arith, length_filter test p.entries, is.few_entries);
}

few_one : (o : Option Entry) → length (option_to_list o) ≤ 1
few_one None = omega arith
few_one (Some e) = omega arith

few_places : (entries : List Entry) (places : List ℕ) → length (entries_at entries places) ≤ length places
unfolding entries_at
few_places entries [] = omega arith
few_places entries (n ∷ ns) =
    omega (arith, few_places entries ns, few_one (slice_get entries n), length-append (option_to_list (slice_get entries n)) (flat_map (λ m. option_to_list (slice_get entries m)) ns))

pub chosen_at : (p : Publication) (places : List ℕ) → IsPublication p → IsStrictlySortedBy nat_cmp places → All (λ n. n < length p.entries) places → ChosenFrom p (entries_at p.entries places)
unfolding entries_at
chosen_at p places is climbs there = record {
  rises = rises_places entry_key p.entries places is.entries climbs;
  found = all_places (λ e. item_at entry_key p.entries e.id ≡ Some e) p.entries places (found_all entry_key p.entries is.entries);
  within = all_places EntryWithin p.entries places is.entries_within;
  few = omega (arith, few_places p.entries places, length-le_from_below (length p.entries) places climbs there, is.few_entries);
}
