-- A header block as a list of representations (RFC 7541, sections 3.2, 5 and 6), apart from how it is read.
use Rattle.std.specs.Prelude.{◌≡◌, ℕ, ◌+◌, ◌*◌, ◌%◌, ◌^◌, ◌<◌, ◌≤◌, Bool, true, false, List, [], ◌∷◌, ◌++◌, length, Option, None, Some, Ok, slice_index}
use Rattle.std.specs.Bool.{MatchBool}
use Rattle.wl_octets.specs.declared.header.Header.{Header}
use Rattle.hpack.specs.declared.limit.TheConstants.{MAX_LIST_SIZE, MAX_TABLE_SIZE}
use Rattle.hpack.specs.Huffman.{IsHuffman}
use Rattle.hpack.specs.Tables.{Table, list_size, with_item, with_maximum, entry_at}
use Rattle.hpack.specs.Reading.{is_coded}

-- ---- integers (section 5.1)

-- the eighth bit of each byte but the last says that more follow
abbrev pub Continues : List ℕ → Type 0
Continues [] = ⊥
Continues (byte ∷ []) = byte < 128
Continues (byte ∷ next ∷ bytes) = (128 ≤ byte) × Continues (next ∷ bytes)

-- the number whose digits are the lowest seven bits of each byte, lowest first
unfoldable pub groups : List ℕ → ℕ
groups [] = 0
groups (byte ∷ bytes) = byte % 128 + 128 * groups bytes

-- A number in the lowest bits of a byte, or a byte in which all of these are set, and what is above that in at most five
-- bytes after it. It has 32 bits (the two bounds are own rules).
abbrev pub IsInteger : ℕ → List ℕ → ℕ → Type 0
IsInteger full [] value = ⊥
IsInteger full (byte ∷ []) value = (value ≡ byte % (full + 1)) × (value < full)
IsInteger full (byte ∷ next ∷ bytes) value =
    (byte % (full + 1) ≡ full) × Continues (next ∷ bytes) × (length (next ∷ bytes) ≤ 5) × (value ≡ full + groups (next ∷ bytes)) × (value < 2 ^ 32)

-- ---- strings (section 5.2)

-- a length, and so many bytes, which are the text or its Huffman code
pub record IsString (bytes text : List ℕ) : Type 0 where
  pub front : List ℕ
  pub content : List ℕ
  pub parts : bytes ≡ front ++ content
  pub counted : IsInteger 127 front (length content)
  pub spelled : MatchBool (is_coded front) (IsHuffman content text) (text ≡ content)

-- ---- representations (section 6)

-- an index with its entry's name, or an index of 0 and a string
pub data IsName (items : List Header) (full : ℕ) : List ℕ → List ℕ → Type 0 where
  indexed_name : (bytes : List ℕ) (index : ℕ) (entry : Header) → IsInteger full bytes index → entry_at items index ≡ Ok entry → IsName items full bytes entry.name
  new_name : (front bytes name : List ℕ) → IsInteger full front 0 → IsString bytes name → IsName items full (front ++ bytes) name

-- a name, and a value as a string
pub record IsLiteral (items : List Header) (full : ℕ) (bytes : List ℕ) (header : Header) : Type 0 where
  pub front : List ℕ
  pub back : List ℕ
  pub parts : bytes ≡ front ++ back
  pub name : IsName items full front header.name
  pub value : IsString back header.value

-- What one representation says, by its first byte: the header that it names, if any, and the table after it. A size update
-- stands only where no header has begun the block (section 4.2).
pub data Represents (table : Table) (begun : Bool) (bytes : List ℕ) : Option Header → Table → Type 0 where
  indexed : (index : ℕ) (entry : Header) → 128 ≤ slice_index bytes 0 → IsInteger 127 bytes index → entry_at table.items index ≡ Ok entry → Represents table begun bytes (Some entry) table
  indexing : (header : Header) → 64 ≤ slice_index bytes 0 → slice_index bytes 0 < 128 → IsLiteral table.items 63 bytes header → Represents table begun bytes (Some header) (with_item table header)
  size_update : (most : ℕ) → begun ≡ false → 32 ≤ slice_index bytes 0 → slice_index bytes 0 < 64 → IsInteger 31 bytes most → most ≤ MAX_TABLE_SIZE → Represents table begun bytes None (with_maximum table most)
  not_indexing : (header : Header) → slice_index bytes 0 < 32 → IsLiteral table.items 15 bytes header → Represents table begun bytes (Some header) table

-- ---- blocks (section 3.2)

-- representations that name these headers from one table and leave another, where a header came before or not
pub data Names : Table → Bool → List ℕ → List Header → Table → Type 0 where
  ended : (table : Table) (begun : Bool) → Names table begun [] [] table
  named : (table next after : Table) (begun : Bool) (bytes rest : List ℕ) (header : Header) (headers : List Header) → Represents table begun bytes (Some header) next → Names next true rest headers after → Names table begun (bytes ++ rest) (header ∷ headers) after
  updated : (table next after : Table) (begun : Bool) (bytes rest : List ℕ) (headers : List Header) → Represents table begun bytes None next → Names next begun rest headers after → Names table begun (bytes ++ rest) headers after

-- a block names these headers, whose sizes sum to at most 16,384, from one table and leaves another
pub record IsBlock (table : Table) (bytes : List ℕ) (headers : List Header) (after : Table) : Type 0 where
  pub names : Names table false bytes headers after
  pub fits : list_size headers ≤ MAX_LIST_SIZE
