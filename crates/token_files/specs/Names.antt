-- The names of token files (own rules). An audience is any text: in a name it is percent-encoded (RFC 3986, 2.1). The
-- unreserved characters (2.3), the letters and digits of ASCII, `-`, `.`, `_` and `~`, stay as they are. So a name has no `/`.
use Rattle.std.specs.Prelude.{ℕ, ◌+◌, ◌&&◌, nat_le, Bool, List, ◌++◌, length, codes}
use Rattle.std.specs.Fmt.{decimal}
use Rattle.percent_encoding.specs.Percent.{percent_encode}
use Rattle.token_files.specs.declared.names.TheConstants.{RESERVED, MAX_ENCODED_LEN}

unfoldable pub encoded : List ℕ → List ℕ
encoded audience = percent_encode RESERVED audience

-- `jwt.AUDIENCE-K.token` of the Kth token for this audience
unfoldable pub token_name : List ℕ → ℕ → List ℕ
token_name audience at = codes "jwt." ++ encoded audience ++ codes "-" ++ decimal (at + 1) ++ codes ".token"

-- it isn't empty, and a name has at most 255 bytes
unfoldable pub is_audience : List ℕ → Bool
is_audience audience = nat_le 1 (length audience) && nat_le (length (encoded audience)) MAX_ENCODED_LEN
