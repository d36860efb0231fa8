-- Changes of a list of entries by ascending id (own rule).
use Rattle.std.specs.Prelude.{ℕ, List, [], ◌∷◌, map, if◌then◌else◌}
use Rattle.std.specs.Str.{bytes_eq}
use Rattle.std.specs.Ordering.{nat_cmp, match_ordering}
use Rattle.std.specs.Cmp.Lexicographic.{slice_cmp}
use Rattle.wl_entry.specs.declared.entries.Entry.{Entry}
use Rattle.wl_match.specs.declared.changes.Change.{Change}
use Rattle.wl_match.specs.declared.changes.Change.TheVariants.{Put, Remove}

-- with an entry at the place of its id, where it takes the place of the one of that id
abbrev pub put_entry : Entry → List Entry → List Entry
put_entry e [] = e ∷ []
put_entry e (x ∷ xs) = match_ordering (slice_cmp nat_cmp e.id x.id) (e ∷ x ∷ xs) (e ∷ xs) (x ∷ put_entry e xs)

-- without the entry of an id
abbrev pub take_out : List ℕ → List Entry → List Entry
take_out id [] = []
take_out id (x ∷ xs) = if bytes_eq id x.id then xs else x ∷ take_out id xs

abbrev pub changed_by : Change → List Entry → List Entry
changed_by (Put e) entries = put_entry e entries
changed_by (Remove id) entries = take_out id entries

-- after these changes, in turn
abbrev pub changed_entries : List Change → List Entry → List Entry
changed_entries [] entries = entries
changed_entries (change ∷ changes) entries = changed_entries changes (changed_by change entries)

-- entries beside their ids
abbrev pub by_id : List Entry → List (List ℕ × Entry)
by_id entries = map (λ e. (e.id, e)) entries
