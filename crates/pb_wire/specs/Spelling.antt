-- The one encoding of a field of wire type 2 (Protocol Buffers encoding, "Message Structure" and "Length-Delimited Records").
use Rattle.std.specs.Prelude.{ℕ, ◌+◌, ◌*◌, List, [], ◌∷◌, ◌++◌, length}
use Rattle.pb_wire.specs.Varint.{varint}

-- its tag, which is its number and its wire type, and its length
abbrev pub head : ℕ → ℕ → List ℕ
head number len = varint (8 * number + 2) ++ varint len

-- and its bytes
abbrev pub field : ℕ → List ℕ → List ℕ
field number bytes = head number (length bytes) ++ bytes

-- the same, left out where it is empty (proto3: a field that has its default value isn't written)
abbrev pub optional_field : ℕ → List ℕ → List ℕ
optional_field number [] = []
optional_field number (b ∷ bytes) = field number (b ∷ bytes)
