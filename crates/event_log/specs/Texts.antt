-- Texts within a line.
use Rattle.std.specs.Prelude.{ℕ, true, ◌+◌, ◌/◌, ◌%◌, ◌==◌, ◌&&◌, ◌||◌, Bool, nat_le, nat_lt, if◌then◌else◌, List, [], ◌∷◌, ◌++◌, codes}
use Rattle.std.specs.Fmt.{decimal}

unfoldable pub hex_digit : ℕ → ℕ
hex_digit n = if nat_lt n 10 then 48 + n else 87 + n

-- a byte as it stands within quotes: as in JSON (RFC 8259, section 7), and each that isn't printed ASCII as \u00 and its two digits
unfoldable pub escaped_byte : ℕ → List ℕ
escaped_byte b =
    if b == 34 then codes "\\\""
    else if b == 92 then codes "\\\\"
    else if nat_le 32 b && nat_le b 126 then b ∷ []
    else codes "\\u00" ++ hex_digit (b / 16 % 16) ∷ hex_digit (b % 16) ∷ []

abbrev pub escaped : List ℕ → List ℕ
escaped [] = []
escaped (b ∷ bytes) = escaped_byte b ++ escaped bytes

-- printed ASCII, and so no newline
abbrev pub is_printed : ℕ → Bool
is_printed b = nat_le 32 b && nat_le b 126

abbrev pub are_printed : List ℕ → Bool
are_printed [] = true
are_printed (b ∷ bytes) = is_printed b && are_printed bytes

-- the bytes of a fault line: small letters, digits and spaces. No PEM, base64 or DER is all of these
abbrev pub is_fault_byte : ℕ → Bool
is_fault_byte b = (nat_le 97 b && nat_le b 122) || ((nat_le 48 b && nat_le b 57) || b == 32)

abbrev pub are_fault_bytes : List ℕ → Bool
are_fault_bytes [] = true
are_fault_bytes (b ∷ bytes) = is_fault_byte b && are_fault_bytes bytes

-- ---- members of a line, each with the space before it (logfmt)

unfoldable pub word_field : List ℕ → List ℕ → List ℕ
word_field key word = codes " " ++ key ++ codes "=" ++ word

unfoldable pub number_field : List ℕ → ℕ → List ℕ
number_field key n = codes " " ++ key ++ codes "=" ++ decimal n

unfoldable pub text_field : List ℕ → List ℕ → List ℕ
text_field key text = codes " " ++ key ++ codes "=\"" ++ escaped text ++ codes "\""
