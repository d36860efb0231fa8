-- When a token ends: the claim `exp` (RFC 7519, 4.1.4), as a whole number of seconds since 1970. Nobody verified it.
use Rattle.std.specs.Prelude.{ℕ, List, codes, Option, option_and_then}
use Rattle.serde_json.specs.Data.{Data}
use Rattle.serde_json.specs.Find.{get, as_number, as_u64}
use Rattle.json_members.specs.Texts.{value_of}
use Rattle.jws_text.specs.declared.said.Said.{Said}
use Rattle.jws_text.specs.Tokens.{said_in}

abbrev pub number_in : Data → Option ℕ
number_in claims = option_and_then as_u64 (option_and_then as_number (get (codes "exp") claims))

abbrev pub end_said : Said → Option ℕ
end_said said = option_and_then number_in (value_of said.claims)

unfoldable pub end_of : List ℕ → Option ℕ
end_of token = option_and_then end_said (said_in token)
