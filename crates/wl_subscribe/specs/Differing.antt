-- What differs between two publications (own rule): a subscriber's view does exactly where something differs for all, or
-- where the subscriber is entitled to one of the entries because of which a view differs.
use Rattle.std.specs.Prelude.{ℕ, ◌&&◌, ◌||◌, Bool, false, not, if◌then◌else◌, List, [], ◌++◌, map, filter, option_to_list, is_some, Option, Some, None}
use Rattle.std.specs.Option.{option_eq}
use Rattle.std.specs.Str.{bytes_eq}
use Rattle.std.specs.List.{list_any, flat_map}
use Rattle.list_laws.specs.Keys.{item_at}
use Rattle.wl_entry.specs.Keys.{entry_key, svid_key, bundle_key}
use Rattle.wl_entry.specs.Same.{same_entry, same_svid, same_bundle}
use Rattle.wl_entry.specs.declared.entries.Entry.{Entry}
use Rattle.wl_snapshot.specs.Snapshots.{Publication}

-- what there is is this item, by a test of equality
abbrev pub is_item : {X : Type 0} → (X → X → Bool) → Option X → X → Bool
is_item test None x = false
is_item test (Some y) x = test y x

-- the keys of the items that are not among the later ones as they are
unfoldable pub keys_gone : {X : Type 0} → (X → X → Bool) → (X → List ℕ) → List X → List X → List (List ℕ)
keys_gone test key before after = map key (filter (λ x. not (is_item test (item_at key after (key x)) x)) before)

-- the keys of the later items that no earlier one has
unfoldable pub keys_new : {X : Type 0} → (X → List ℕ) → List X → List X → List (List ℕ)
keys_new key before after = map key (filter (λ x. not (is_some (item_at key before (key x)))) after)

-- the entry of this id and its SVID are the same in both
unfoldable pub is_same_at : Publication → Publication → List ℕ → Bool
is_same_at old new id = option_eq same_entry (item_at entry_key old.entries id) (item_at entry_key new.entries id)
    && option_eq same_svid (item_at svid_key old.svids id) (item_at svid_key new.svids id)

-- the entries of this id in both, where the entry or its SVID is another one
unfoldable pub entries_differing : Publication → Publication → List ℕ → List Entry
entries_differing old new id =
    if is_same_at old new id then [] else option_to_list (item_at entry_key old.entries id) ++ option_to_list (item_at entry_key new.entries id)

-- the bundle of this domain is another one
unfoldable pub is_other_bundle : Publication → Publication → List ℕ → Bool
is_other_bundle old new domain = not (option_eq same_bundle (item_at bundle_key old.bundles domain) (item_at bundle_key new.bundles domain))

-- the entry federates with a domain whose bundle is another one
unfoldable pub federates_anew : Publication → Publication → Entry → Bool
federates_anew old new e = list_any (is_other_bundle old new) e.federates_with

-- every view differs: the own domain or its bundle is another one
unfoldable pub all_differ : Publication → Publication → Bool
all_differ old new = not (bytes_eq old.domain new.domain) || is_other_bundle old new new.domain

-- the entries because of which a view differs, where nothing else differs than at these ids and in the bundles
unfoldable pub reasons : List (List ℕ) → Publication → Publication → List Entry
reasons ids old new = flat_map (entries_differing old new) ids ++ filter (federates_anew old new) new.entries
