-- Reading one field at a place, with the first fault that is met (Protocol Buffers encoding, "Message Structure" and
-- "Base 128 Varints"; that groups are refused is an own rule). Places count from the start of the bytes.
use Rattle.std.specs.Prelude.{◌≡◌, ◌<◌, ◌≤◌, ℕ, zero, suc, ◌+◌, ◌*◌, ◌-◌, ◌/◌, ◌%◌, nat_lt, ◌==◌, ◌||◌, if◌then◌else◌, List, [], ◌∷◌, length, take, drop, Result, Ok, Err}
use Rattle.std.specs.Int.{w32, w64, from_le_bytes}
use Rattle.list_laws.specs.Results.{◌>>=◌}
use Rattle.pb_wire.specs.declared.fault.WireFault.{WireFault}
use Rattle.pb_wire.specs.declared.fault.WireFault.TheVariants.{Truncated, VarintLong, WireKind, Number}
use Rattle.pb_wire.specs.declared.field.TheConstants.{MAX_FIELD_NUMBER}
use Rattle.pb_wire.specs.declared.field.Field.{Field}
use Rattle.pb_wire.specs.declared.field.Value.{Value}
use Rattle.pb_wire.specs.declared.field.Value.TheVariants.{Varint, Eight, Span, Four}

-- The number at the start of bytes that are at a place, and how many bytes it has: one, and at most `more` more. A
-- byte below 128 is the last; the bytes after another one stand for the multiples of 128. Where no more may come, the
-- byte is 0 or 1, since the number has 64 bits.
abbrev pub varint_from : ℕ → ℕ → List ℕ → Result (ℕ × ℕ) WireFault
varint_from at more [] = Err (Truncated at)
varint_from at zero (b ∷ bs) = if nat_lt b 2 then Ok (b, 1) else Err (VarintLong at)
varint_from at (suc more) (b ∷ bs) = if nat_lt b 128 then Ok (b, 1) else (varint_from at more bs >>= λ high. Ok ((b - 128) + 128 * high.0, suc high.1))

-- the number at a place, and the place after it
unfoldable pub varint_at : List ℕ → ℕ → Result (ℕ × ℕ) WireFault
varint_at bytes at = varint_from at 9 (drop at bytes) >>= λ v. Ok (v.0, at + v.1)

-- a tag: the field's number, its wire type, and the place after it
unfoldable pub tag_at : List ℕ → ℕ → Result (ℕ × ℕ × ℕ) WireFault
tag_at bytes at = varint_at bytes at >>= λ tag.
    if (tag.0 / 8 == 0) || nat_lt MAX_FIELD_NUMBER (tag.0 / 8) then Err (Number at) else Ok (tag.0 / 8, tag.0 % 8, tag.1)

-- so many bytes at a place
unfoldable pub fixed_at : ℕ → List ℕ → ℕ → Result (List ℕ) WireFault
fixed_at size bytes at = if nat_lt (length bytes) (at + size) then Err (Truncated at) else Ok (take size (drop at bytes))

-- a value of eight bytes and one of four, the least first, and the place after it
unfoldable pub eight_at : List ℕ → ℕ → Result (Value × ℕ) WireFault
eight_at bytes at = fixed_at 8 bytes at >>= λ word. Ok (Eight (from_le_bytes w64 word), at + 8)

unfoldable pub four_at : List ℕ → ℕ → Result (Value × ℕ) WireFault
four_at bytes at = fixed_at 4 bytes at >>= λ word. Ok (Four (from_le_bytes w32 word), at + 4)

-- a length, and as many bytes
unfoldable pub span_at : List ℕ → ℕ → Result (Value × ℕ) WireFault
span_at bytes at = varint_at bytes at >>= λ len.
    if nat_lt (length bytes) (len.1 + len.0) then Err (Truncated at) else Ok (Span len.1 len.0, len.1 + len.0)

-- a number
unfoldable pub number_at : List ℕ → ℕ → Result (Value × ℕ) WireFault
number_at bytes at = varint_at bytes at >>= λ v. Ok (Varint v.0, v.1)

-- a value of this wire type, whose field begins at `start`
unfoldable pub value_at : ℕ → List ℕ → ℕ → ℕ → Result (Value × ℕ) WireFault
value_at kind bytes start at = if kind == 0 then number_at bytes at else (if kind == 1 then eight_at bytes at else (if kind == 2 then span_at bytes at else (if kind == 5 then four_at bytes at else Err (WireKind start))))

-- a field: its tag and its value
unfoldable pub field_at : List ℕ → ℕ → Result Field WireFault
field_at bytes at =
    tag_at bytes at >>= λ tag.
    value_at tag.1 bytes at tag.2 >>= λ value.
    Ok (record { number = tag.0; value = value.0; next = value.1 })

-- a value lies after `at`, its content before the place after it, and that before the end of the bytes
abbrev pub IsWithin : ℕ → ℕ → Value → ℕ → Type 0
IsWithin at end (Varint n) next = (at < next) × (next ≤ end)
IsWithin at end (Eight n) next = (at < next) × (next ≤ end)
IsWithin at end (Span start len) next = (at < start) × (next ≡ start + len) × (next ≤ end)
IsWithin at end (Four n) next = (at < next) × (next ≤ end)
