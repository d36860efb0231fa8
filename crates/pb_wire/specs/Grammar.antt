-- The grammar of a field, apart from both directions (Protocol Buffers encoding, "Message Structure").
use Rattle.std.specs.Prelude.{◌≡◌, ◌≤◌, ℕ, ◌+◌, ◌*◌, List, ◌++◌, length, drop}
use Rattle.std.specs.Int.{w32, w64, from_le_bytes}
use Rattle.pb_wire.specs.declared.field.TheConstants.{MAX_FIELD_NUMBER}
use Rattle.pb_wire.specs.declared.field.Field.{Field}
use Rattle.pb_wire.specs.declared.field.Value.{Value}
use Rattle.pb_wire.specs.declared.field.Value.TheVariants.{Varint, Eight, Span, Four}
use Rattle.pb_wire.specs.Varint.{varint, Encodes}
use Rattle.pb_wire.specs.Spelling.{head, field}

-- the wire type of a value
abbrev pub kind_of : Value → ℕ
kind_of (Varint n) = 0
kind_of (Eight n) = 1
kind_of (Span start len) = 2
kind_of (Four n) = 5

-- a length and as many bytes, at a place
pub record IsSpan (at : ℕ) (bytes : List ℕ) (start len : ℕ) : Type 0 where
  pub size : List ℕ
  pub content : List ℕ
  pub parts : bytes ≡ size ++ content
  pub is_size : Encodes size len
  pub is_content : length content ≡ len
  pub is_start : start ≡ at + length size

-- these bytes, at a place, are this value
abbrev pub IsValue : ℕ → List ℕ → Value → Type 0
IsValue at bytes (Varint n) = Encodes bytes n
IsValue at bytes (Eight n) = (length bytes ≡ 8) × (n ≡ from_le_bytes w64 bytes)
IsValue at bytes (Span start len) = IsSpan at bytes start len
IsValue at bytes (Four n) = (length bytes ≡ 4) × (n ≡ from_le_bytes w32 bytes)

-- these bytes, at a place, are this field: a tag and a value
pub record IsField (at : ℕ) (bytes : List ℕ) (f : Field) : Type 0 where
  pub tag : List ℕ
  pub content : List ℕ
  pub parts : bytes ≡ tag ++ content
  pub least : 1 ≤ f.number
  pub most : f.number ≤ MAX_FIELD_NUMBER
  pub is_tag : Encodes tag (8 * f.number + kind_of f.value)
  pub is_value : IsValue (at + length tag) content f.value
  pub behind : f.next ≡ at + length bytes

-- what is at a place in the bytes begins with this field
pub record StandsAt (bytes : List ℕ) (at : ℕ) (f : Field) : Type 0 where
  pub piece : List ℕ
  pub rest : List ℕ
  pub parts : drop at bytes ≡ piece ++ rest
  pub is_field : IsField at piece f
  pub some : 1 ≤ length piece

-- the field of wire type 2 that has this content, and of wire type 0 that has this number, where it was written
abbrev pub bytes_field : ℕ → ℕ → List ℕ → Field
bytes_field at number content = record { number = number; value = Span (at + length (head number (length content))) (length content); next = at + length (field number content) }

abbrev pub varint_field : ℕ → ℕ → ℕ → Field
varint_field at number n = record { number = number; value = Varint n; next = at + length (varint (8 * number) ++ varint n) }
