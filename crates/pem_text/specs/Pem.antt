-- PEM as in RFC 7468, strict form.
use Rattle.std.specs.Prelude.{ℕ, ◌+◌, ◌==◌, ◌&&◌, not, Bool, true, if◌then◌else◌, List, [], ◌∷◌, ◌++◌, codes}
use Rattle.base64.specs.Engines.{standard}
use Rattle.base64.specs.GeneralPurpose.{encode_of}

-- Lines of 64 characters, where `used` characters of this line are written; a newline ends each line.
abbrev pub lines_from : ℕ → List ℕ → List ℕ
lines_from used [] = if used == 0 then [] else 10 ∷ []
lines_from used (b ∷ bytes) = if used == 64 then 10 ∷ b ∷ lines_from 1 bytes else b ∷ lines_from (used + 1) bytes

-- the text without its newlines
abbrev pub joined : List ℕ → List ℕ
joined [] = []
joined (b ∷ bytes) = if b == 10 then joined bytes else b ∷ joined bytes

abbrev pub has_no_newline : List ℕ → Bool
has_no_newline [] = true
has_no_newline (b ∷ bytes) = not (b == 10) && has_no_newline bytes

-- a line that begins or ends the text
unfoldable pub edge : List ℕ → List ℕ → List ℕ
edge word label = codes "-----" ++ word ++ codes " " ++ label ++ codes "-----\n"

unfoldable pub pem : List ℕ → List ℕ → List ℕ
pem label der = edge (codes "BEGIN") label ++ lines_from 0 (encode_of standard der) ++ edge (codes "END") label
