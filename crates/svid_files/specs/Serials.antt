-- The serial number of a chain's first certificate (RFC 5280, 4.1): a SEQUENCE in which the first value is a SEQUENCE, in which a
-- version under the tag [0] may stand before the INTEGER.
use Rattle.std.specs.Prelude.{ℕ, ◌-◌, ◌==◌, ◌&&◌, nat_lt, nat_le, if◌then◌else◌, List, [], ◌∷◌, length, take, drop, Option, Some, None, option_map}
use Rattle.std.specs.Str.{bytes_eq}

-- how many octets the length has after its first one (ITU-T X.690, 8.1.3)
abbrev pub length_octets : ℕ → ℕ
length_octets first = if nat_lt first 128 then 0 else first - 128

-- what stands after a tag and a length
abbrev pub after_head : List ℕ → List ℕ
after_head [] = []
after_head (tag ∷ []) = []
after_head (tag ∷ first ∷ rest) = drop (length_octets first) rest

-- after a version, where there is one
unfoldable pub after_version : List ℕ → List ℕ
after_version bytes = if bytes_eq (take 4 bytes) (160 ∷ 3 ∷ 2 ∷ 1 ∷ []) then drop 5 bytes else bytes

-- an INTEGER of at most 127 octets
abbrev pub integer_at : List ℕ → Option (List ℕ)
integer_at (tag ∷ size ∷ rest) = if (tag == 2) && (nat_lt size 128 && nat_le size (length rest)) then Some (take size rest) else None
integer_at _ = None

-- without the octet that only says that the number isn't negative (X.690, 8.3.2)
abbrev pub magnitude : List ℕ → List ℕ
magnitude (b ∷ c ∷ bytes) = if b == 0 then c ∷ bytes else b ∷ c ∷ bytes
magnitude bytes = bytes

unfoldable pub serial_of : List ℕ → Option (List ℕ)
serial_of chain = option_map magnitude (integer_at (after_version (after_head (after_head chain))))
