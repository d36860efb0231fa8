-- A block that is written takes less than its headers' sizes.
use Rattle.std.proofs.Common.{◌≡◌, ℕ, ◌+◌, ◌-◌, ◌<◌, ◌≤◌, List, [], ◌∷◌, length, Option, Some, None, refl, inl, inr, arith}
use Rattle.std.specs.List.{position}
use Rattle.std.proofs.lemmas.Bool.{cases_lt, lt-ltb, le-ltb}
use Rattle.std.proofs.lemmas.List.{length-append}
use Rattle.std.proofs.lemmas.List.Quantifiers.{position-Some}
use Rattle.hpack.proofs.Common.{Header, size_of, list_size, static_table, no_field}
use Rattle.hpack.specs.Writing.{integer_bytes, plain_string, same_field, same_name, name_bytes, field_bytes_at, field_bytes, block_bytes}
use Rattle.hpack.proofs.Eviction.{list_size-cons}
use Rattle.hpack.proofs.WrittenBlocks.{more_short}
use Rattle.hpack.proofs.StaticTable.{static_count}

integer_short : (pattern full value : ℕ) → value ≤ 16384 → length (integer_bytes pattern full value) ≤ 4
unfolding integer_bytes
integer_short pattern full value le =
    elim (cases_lt value full) [
      | inl short ↦ rw (lt-ltb value full short) (omega arith)
      | inr long ↦ let more = more_short 2 (value - full) (omega arith) in rw (le-ltb value full long) (omega arith)
    ]

string_short : (text : List ℕ) → length text ≤ 16384 → length (plain_string text) ≤ length text + 4
string_short text le = simp length-append (omega (arith, integer_short 0 127 (length text) le))

name_short : (header : Header) (place : Option ℕ) → position (same_name header) static_table ≡ place → length header.name ≤ 16384 → length (name_bytes header place) ≤ length header.name + 5
name_short header (Some place) found le =
    let there = position-Some (same_name header) static_table place no_field found in
    omega (arith, integer_short 0 15 (place + 1) (omega (arith, there.0, static_count)))
name_short header None found le = omega (arith, string_short header.name le)

header_short : (header : Header) (place : Option ℕ) → position (same_field header) static_table ≡ place → size_of header ≤ 16384 → length (field_bytes_at header place) < size_of header
header_short header (Some place) found le =
    let there = position-Some (same_field header) static_table place no_field found in
    omega (arith, integer_short 128 127 (place + 1) (omega (arith, there.0, static_count)))
header_short header None found le =
    let place = position (same_name header) static_table in
    let name = name_short header place refl (omega arith) in
    let value = string_short header.value (omega arith) in
    rw (length-append (name_bytes header place) (plain_string header.value)) (omega (arith, name, value))

block_short : (headers : List Header) → list_size headers ≤ 16384 → length (block_bytes headers) + length headers ≤ list_size headers
unfolding field_bytes
block_short [] le = omega arith
block_short (header ∷ headers) le =
    let size = list_size-cons header headers in
    let first = header_short header (position (same_field header) static_table) refl (omega arith) in
    let later = block_short headers (omega arith) in
    rw (length-append (field_bytes_at header (position (same_field header) static_table)) (block_bytes headers)) (omega (arith, first, later, size))

pub block_small : (headers : List Header) → list_size headers ≤ 16384 → length (block_bytes headers) < 16384
block_small [] le = omega arith
block_small (header ∷ headers) le = omega (arith, block_short (header ∷ headers) le)
