-- Reading a header block (RFC 7541, sections 3.2, 5 and 6), with the fault of its leftmost wrong representation. `Grammar`
-- has the same as a relation.
use Rattle.std.specs.Prelude.{ℕ, zero, suc, ◌+◌, ◌-◌, ◌*◌, ◌%◌, ◌==◌, nat_lt, nat_le, Bool, true, false, ◌||◌, if◌then◌else◌, List, [], ◌∷◌, length, take, drop, Option, None, Some, Result, Ok, Err}
use Rattle.wl_octets.specs.declared.header.Header.{Header}
use Rattle.list_laws.specs.Results.{◌>>=◌}
use Rattle.hpack.specs.declared.fault.HpackFault.{HpackFault}
use Rattle.hpack.specs.declared.fault.HpackFault.TheVariants as faults
use Rattle.hpack.specs.declared.limit.TheConstants.{MAX_LIST_SIZE, MAX_TABLE_SIZE}
use Rattle.hpack.specs.Tree.{huffman_text}
use Rattle.hpack.specs.Tables.{Table, size_of, with_item, with_maximum, entry_at, name_of}

-- ---- integers (section 5.1)

-- what one more is worth in each byte after a full prefix; own rule: there are five bytes at most
abbrev pub worths : List ℕ
worths = 1 ∷ 128 ∷ 16384 ∷ 2097152 ∷ 268435456 ∷ []

-- bytes of seven bits, lowest first, as long as the eighth bit says that more follow; own rule: a value has 32 bits
unfoldable pub more_at : List ℕ → ℕ → List ℕ → Result (ℕ × List ℕ) HpackFault
more_at places value [] = Err faults.Truncated
more_at [] value (byte ∷ rest) = Err faults.Integer
more_at (worth ∷ places) value (byte ∷ rest) =
    if nat_lt 4294967295 (value + byte % 128 * worth) then Err faults.Integer
    else if nat_lt byte 128 then Ok (value + byte % 128 * worth, rest)
    else more_at places (value + byte % 128 * worth) rest

-- an integer whose prefix takes the lowest bits of the first byte, and the bytes after it; a full prefix has all these bits set
unfoldable pub integer_at : ℕ → List ℕ → Result (ℕ × List ℕ) HpackFault
integer_at full [] = Err faults.Truncated
integer_at full (byte ∷ rest) = if byte % (full + 1) == full then more_at worths full rest else Ok (byte % (full + 1), rest)

-- ---- strings (section 5.2)

abbrev pub is_coded : List ℕ → Bool
is_coded [] = false
is_coded (byte ∷ rest) = nat_le 128 byte

-- a length, and so many bytes, which are the text or its Huffman code
unfoldable pub string_at : List ℕ → Result (List ℕ × List ℕ) HpackFault
string_at bytes = do
  count ← integer_at 127 bytes
  if nat_lt (length count.1) count.0 then Err faults.Truncated else do
    text ← (if is_coded bytes then huffman_text (take count.0 count.1) else Ok (take count.0 count.1))
    Ok (text, drop count.0 count.1)

-- ---- representations (section 6)

-- a name is an entry's, or follows after an index of 0
unfoldable pub name_at : List Header → ℕ → List ℕ → Result (List ℕ × List ℕ) HpackFault
name_at items full bytes = do
  index ← integer_at full bytes
  if index.0 == 0 then string_at index.1 else do
    name ← name_of (entry_at items index.0)
    Ok (name, index.1)

unfoldable pub literal_at : List Header → ℕ → List ℕ → Result (Header × List ℕ) HpackFault
literal_at items full bytes = do
  name ← name_at items full bytes
  value ← string_at name.1
  Ok (record { name = name.0; value = value.0 }, value.1)

-- A representation names a header or resizes the table; then come the table and the bytes after it. A size update stands
-- only where no header has begun the block (section 4.2).
unfoldable pub representation_at : Table → Bool → ℕ → List ℕ → Result (Option Header × Table × List ℕ) HpackFault
representation_at table begun first bytes =
    if nat_le 128 first then (do
      index ← integer_at 127 bytes
      entry ← entry_at table.items index.0
      Ok (Some entry, table, index.1))
    else if nat_le 64 first then (do
      literal ← literal_at table.items 63 bytes
      Ok (Some literal.0, with_item table literal.0, literal.1))
    else if nat_le 32 first then (do
      most ← integer_at 31 bytes
      if begun || nat_lt MAX_TABLE_SIZE most.0 then Err faults.SizeUpdate else Ok (None, with_maximum table most.0, most.1))
    else (do
      literal ← literal_at table.items 15 bytes
      Ok (Some literal.0, table, literal.1))

-- ---- blocks (section 3.2)

abbrev pub after_representation : Option Header × Table × List ℕ → Bool → ℕ → (Table → Bool → ℕ → List ℕ → Result (List Header × Table) HpackFault) → Result (List Header × Table) HpackFault
after_representation (None, table, rest) begun room go_on = go_on table begun room rest
after_representation (Some header, table, rest) begun room go_on =
    if nat_lt room (size_of header) then Err faults.ListTooLong else (do
      others ← go_on table true (room - size_of header) rest
      Ok (header ∷ others.0, others.1))

-- at most so many representations, where a header came before or not, and so much room is left in the list
unfoldable pub block_in : ℕ → Table → Bool → ℕ → List ℕ → Result (List Header × Table) HpackFault
block_in count table begun room [] = Ok ([], table)
block_in zero table begun room (byte ∷ bytes) = Ok ([], table)
block_in (suc count) table begun room (byte ∷ bytes) = do
  read ← representation_at table begun byte (byte ∷ bytes)
  after_representation read begun room (block_in count)

-- the headers that the bytes name, where each representation has a byte at least
unfoldable pub headers_of : Table → Bool → ℕ → List ℕ → Result (List Header × Table) HpackFault
headers_of table begun room bytes = block_in (length bytes) table begun room bytes

-- the headers of a block, whose sizes sum to 16,384 at most (own rule), and the table after it, or the fault of its leftmost wrong representation
abbrev pub block_of : Table → List ℕ → Result (List Header × Table) HpackFault
block_of table bytes = headers_of table false MAX_LIST_SIZE bytes
