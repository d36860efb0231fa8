-- A token in the compact form (RFC 7515, sections 2 and 7.1): head, claims and signature between dots, each in base64url without
-- padding. Of a JWT head and claims are objects of JSON (RFC 7519, section 7.2).
use Rattle.std.specs.Prelude.{ℕ, ◌==◌, nat_lt, Bool, if◌then◌else◌, List, take, drop, map, position, Option, Some, None, option_map, option_and_then, is_some, Result, Ok, Err}
use Rattle.base64.specs.Engines.{url_safe_no_pad}
use Rattle.base64.specs.GeneralPurpose.{decode_of}
use Rattle.base64.specs.declared.decode.DecodeError.{DecodeError}
use Rattle.serde_json.specs.Find.{as_object}
use Rattle.json_members.specs.Texts.{value_of}
use Rattle.jws_text.specs.declared.said.Said.{Said}

-- ---- parts

abbrev pub is_dot : ℕ → Bool
is_dot b = b == 46

-- what stands before the first dot, and after it
unfoldable pub cut : List ℕ → Option (List ℕ × List ℕ)
cut text = option_map (λ at. (take at text, drop 1 (drop at text))) (position is_dot text)

-- the first two of three parts
unfoldable pub parts_of : List ℕ → Option (List ℕ × List ℕ)
parts_of token = option_and_then (λ p. option_and_then (λ q. if is_some (cut q.1) then None else Some (p.0, q.0)) (cut p.1)) (cut token)

-- ---- what they say

-- outside of its texts JSON has no control characters but white space, and in them none (RFC 8259, sections 2 and 7)
abbrev pub spaced : ℕ → ℕ
spaced b = if nat_lt b 32 then 32 else b

unfoldable pub one_line : List ℕ → List ℕ
one_line text = map spaced text

abbrev pub is_object : List ℕ → Bool
is_object text = is_some (option_and_then as_object (value_of text))

abbrev pub decoded : Result (List ℕ) DecodeError → Option (List ℕ)
decoded (Ok bytes) = Some bytes
decoded (Err fault) = None

-- base64url without padding (RFC 4648, section 5)
abbrev pub bytes_in : List ℕ → Option (List ℕ)
bytes_in part = decoded (decode_of url_safe_no_pad part)

unfoldable pub object_in : List ℕ → Option (List ℕ)
object_in part = option_and_then (λ text. if is_object text then Some (one_line text) else None) (bytes_in part)

unfoldable pub said_of : List ℕ → List ℕ → Option Said
said_of head claims = option_and_then (λ h. option_map (λ c. record { head = h; claims = c }) (object_in claims)) (object_in head)

unfoldable pub said_in : List ℕ → Option Said
said_in token = option_and_then (λ p. said_of p.0 p.1) (parts_of token)
