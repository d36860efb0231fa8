-- The one encoding of the header blocks that are written: static entries are indexed, all else is a literal without indexing, no
-- string is Huffman coded, and the table stays as it is (own rule, within RFC 7541, sections 5 and 6).
use Rattle.std.specs.Prelude.{◌≡◌, ◌<◌, false, slice_index_or, ℕ, zero, suc, ◌+◌, ◌-◌, ◌/◌, ◌%◌, nat_lt, Bool, ◌&&◌, if◌then◌else◌, List, [], ◌∷◌, ◌++◌, length, Option, None, Some}
use Rattle.std.specs.List.{flat_map, position}
use Rattle.std.specs.Str.{bytes_eq}
use Rattle.wl_octets.specs.declared.header.Header.{Header}
use Rattle.hpack.specs.Tables.{static_table, no_field}

-- a number in bytes of seven bits, lowest first, the eighth bit saying that more follow; at most so many before the last
unfoldable pub more_in : ℕ → ℕ → List ℕ
more_in zero value = value ∷ []
more_in (suc count) value = if nat_lt value 128 then value ∷ [] else (128 + value % 128) ∷ more_in count (value / 128)

unfoldable pub more_bytes : ℕ → List ℕ
more_bytes value = more_in value value

-- an integer whose prefix takes the bits of the first byte that the pattern leaves
unfoldable pub integer_bytes : ℕ → ℕ → ℕ → List ℕ
integer_bytes pattern full value = if nat_lt value full then (pattern + value) ∷ [] else (pattern + full) ∷ more_bytes (value - full)

-- a string as it is
abbrev pub plain_string : List ℕ → List ℕ
plain_string text = integer_bytes 0 127 (length text) ++ text

abbrev pub same_field : Header → Header → Bool
same_field header entry = bytes_eq entry.name header.name && bytes_eq entry.value header.value

abbrev pub same_name : Header → Header → Bool
same_name header entry = bytes_eq entry.name header.name

-- no static entry before this place has the header's name
abbrev pub NoNameBelow : Header → ℕ → Type 0
NoNameBelow header end = (place : ℕ) → place < end → same_name header (slice_index_or static_table place no_field) ≡ false

-- the first static entry of that name, or 0 and the name
abbrev pub name_bytes : Header → Option ℕ → List ℕ
name_bytes header (Some place) = integer_bytes 0 15 (place + 1)
name_bytes header None = 0 ∷ plain_string header.name

-- the first static entry that is the header, or a literal
abbrev pub field_bytes_at : Header → Option ℕ → List ℕ
field_bytes_at header (Some place) = integer_bytes 128 127 (place + 1)
field_bytes_at header None = name_bytes header (position (same_name header) static_table) ++ plain_string header.value

unfoldable pub field_bytes : Header → List ℕ
field_bytes header = field_bytes_at header (position (same_field header) static_table)

-- the block of some headers
abbrev pub block_bytes : List Header → List ℕ
block_bytes headers = flat_map field_bytes headers
