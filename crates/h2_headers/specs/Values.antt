-- The values of the fields of one name.
use Rattle.std.specs.Prelude.{ℕ, if◌then◌else◌, List, [], ◌∷◌, Option, Some, None}
use Rattle.std.specs.Str.{bytes_eq}
use Rattle.wl_octets.specs.declared.header.Header.{Header}

-- the values of the fields of a name, in order
abbrev pub values_of : List ℕ → List Header → List (List ℕ)
values_of name [] = []
values_of name (h ∷ hs) = if bytes_eq h.name name then h.value ∷ values_of name hs else values_of name hs

abbrev pub only : List (List ℕ) → Option (List ℕ)
only [] = None
only (v ∷ []) = Some v
only (v ∷ w ∷ more) = None

-- the value of a field that is there once
abbrev pub only_value : List ℕ → List Header → Option (List ℕ)
only_value name hs = only (values_of name hs)
