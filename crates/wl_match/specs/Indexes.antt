-- Which entries a caller is entitled to (SPIRE registration entries).
use Rattle.std.specs.Prelude.{ℕ, ◌+◌, Bool, if◌then◌else◌, List, [], ◌∷◌, option_to_list, slice_get}
use Rattle.std.specs.List.{flat_map}
use Rattle.wl_entry.specs.Entitled.{is_entitled}
use Rattle.wl_entry.specs.declared.entries.Entry.{Entry}

-- the places of the items that pass a test, where the first one's place is `at`
abbrev pub places_from : {A : Type 0} → ℕ → (A → Bool) → List A → List ℕ
places_from at test [] = []
places_from at test (x ∷ xs) = if test x then at ∷ places_from (at + 1) test xs else places_from (at + 1) test xs

-- the places, counted from 0, of the entries to which a caller with these selectors is entitled
unfoldable pub entitled_places : List (List ℕ) → List Entry → List ℕ
entitled_places selectors entries = places_from 0 (is_entitled selectors) entries

-- the items at these places
unfoldable pub items_at : {A : Type 0} → List A → List ℕ → List A
items_at items places = flat_map (λ place. option_to_list (slice_get items place)) places
