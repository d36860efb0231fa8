-- How a text of a server stands in a line (own rule): a printable character of ASCII as it is, a backslash twice, and each other
-- byte as `\x` and its two digits. So no text makes a second line.
use Rattle.std.specs.Prelude.{ℕ, ◌==◌, ◌+◌, ◌/◌, ◌%◌, ◌&&◌, Bool, nat_lt, nat_le, if◌then◌else◌, List, [], ◌∷◌, ◌++◌, codes}
use Rattle.std.specs.List.{flat_map, list_all}

-- ---- hexadecimal, in lower case

abbrev pub hex_digit : ℕ → ℕ
hex_digit n = if nat_lt n 10 then 48 + n else 87 + n

abbrev pub hex_byte : ℕ → List ℕ
hex_byte b = hex_digit (b / 16) ∷ hex_digit (b % 16) ∷ []

unfoldable pub hex : List ℕ → List ℕ
hex bytes = flat_map hex_byte bytes

-- ---- texts

-- from the space to the tilde: a newline is none of these
abbrev pub is_printable : ℕ → Bool
is_printable b = nat_le 32 b && nat_le b 126

unfoldable pub escaped_byte : ℕ → List ℕ
escaped_byte b =
    if b == 92 then codes "\\\\"
    else if is_printable b then b ∷ []
    else codes "\\x" ++ hex_byte b

unfoldable pub escaped : List ℕ → List ℕ
escaped text = flat_map escaped_byte text

-- what the bytes of a text are
abbrev pub are_bytes : List ℕ → Bool
are_bytes text = list_all (λ b. nat_lt b 256) text
