-- Bytes in hexadecimal, two digits a byte, the high one first (own rule: lower case where they are written, both cases where
-- they are read).
use Rattle.std.specs.Prelude.{ℕ, ◌+◌, ◌-◌, ◌*◌, ◌/◌, ◌%◌, ◌==◌, ◌&&◌, nat_lt, nat_le, if◌then◌else◌, List, [], ◌∷◌, Option, Some, None, option_and_then, option_map}
use Rattle.std.specs.List.{flat_map}

abbrev pub hex_digit : ℕ → ℕ
hex_digit d = if nat_lt d 10 then 48 + d else 87 + d

-- the two digits of a byte
abbrev pub hex_byte : ℕ → List ℕ
hex_byte b = hex_digit (b / 16) ∷ hex_digit (b % 16) ∷ []

unfoldable pub hex_text : List ℕ → List ℕ
hex_text bytes = flat_map hex_byte bytes

-- ---- reading

-- the value of a digit: `0-9`, `A-F`, `a-f`
abbrev pub hex_value : ℕ → Option ℕ
hex_value b =
    if nat_le 48 b && nat_le b 57 then Some (b - 48)
    else if nat_le 65 b && nat_le b 70 then Some (b - 55)
    else if nat_le 97 b && nat_le b 102 then Some (b - 87)
    else None

-- the byte that two digits write
abbrev pub hex_pair : ℕ → ℕ → Option ℕ
hex_pair high low = option_and_then (λ h. option_map (λ l. 16 * h + l) (hex_value low)) (hex_value high)

-- the bytes that digits write, where they are an even number
abbrev pub hex_pairs : List ℕ → Option (List ℕ)
hex_pairs [] = Some []
hex_pairs (b ∷ []) = None
hex_pairs (high ∷ low ∷ word) = option_and_then (λ byte. option_map (λ bytes. byte ∷ bytes) (hex_pairs word)) (hex_pair high low)

-- the bytes that a word is: its digits', or none where it is `-`
unfoldable pub hex_in : List ℕ → Option (List ℕ)
hex_in [] = Some []
hex_in (b ∷ []) = if b == 45 then Some [] else None
hex_in (b ∷ c ∷ word) = hex_pairs (b ∷ c ∷ word)
