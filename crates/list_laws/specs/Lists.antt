-- Prefixes of lists, byte strings in order, and what a list has at some places.
use Rattle.std.specs.Prelude.{◌≡◌, ◌<◌, ℕ, List, ◌++◌, slice_get, slice_index, option_to_list}
use Rattle.std.specs.List.{flat_map}
use Rattle.std.specs.Ordering.{nat_cmp}
use Rattle.std.specs.Cmp.Lexicographic.{slice_cmp}
use Rattle.std.specs.List.Sorted.{IsStrictlySortedBy}

-- a list begins so
abbrev pub BeginsWith : {A : Type 0} → List A → List A → Type 0
BeginsWith {A} whole front = (rest : List A) × (whole ≡ front ++ rest)

-- new is old with a prefix of what was due
abbrev pub GainsFront : {A : Type 0} → List A → List A → List A → Type 0
GainsFront {A} due old new = (part : List A) × (new ≡ old ++ part) × BeginsWith due part

-- byte strings rise: each is below all later ones
abbrev pub Rises : List (List ℕ) → Type 0
Rises keys = IsStrictlySortedBy (slice_cmp nat_cmp) keys

-- the items at these places, counted from 0, as far as there are any
abbrev pub at_places : {X : Type 0} → List X → List ℕ → List X
at_places xs places = flat_map (λ place. option_to_list (slice_get xs place)) places

-- each number is a byte
abbrev pub AreBytes : List ℕ → Type 0
AreBytes bytes = (i : ℕ) → slice_index bytes i < 256
