-- The header lists of answers (PROTOCOL-HTTP2 of gRPC, Responses).
use Rattle.std.specs.Prelude.{ℕ, Bool, not, ◌&&◌, ◌==◌, nat_le, if◌then◌else◌, List, [], ◌∷◌, ◌++◌, length, flat_map, codes, decimal}
use Rattle.percent_encoding.specs.Percent.{percent_encode_byte}
use Rattle.wl_octets.specs.declared.header.Header.{Header}
use Rattle.grpc_wire.specs.declared.refusal.Refusal.{Refusal}
use Rattle.grpc_wire.specs.Refusals.{status_of, text_of, is_http_refusal}

-- space and visible ASCII stay, but not `%`
abbrev pub is_plain_byte : ℕ → Bool
is_plain_byte b = nat_le 32 b && nat_le b 126 && not (b == 37)

-- every other byte is a `%` and two hexadecimal digits
abbrev pub percent_encoded_byte : ℕ → List ℕ
percent_encoded_byte b = if is_plain_byte b then b ∷ [] else percent_encode_byte b

unfoldable pub percent_encoded : List ℕ → List ℕ
percent_encoded text = flat_map percent_encoded_byte text

abbrev pub field : List ℕ → List ℕ → Header
field name value = record { name = name; value = value }

-- what stands before the messages of an answer
unfoldable pub response_fields : List Header
response_fields = field (codes ":status") (codes "200") ∷ field (codes "content-type") (codes "application/grpc") ∷ []

-- nothing is said of an empty text
abbrev pub message_fields : List ℕ → List Header
message_fields text = if length text == 0 then [] else field (codes "grpc-message") (percent_encoded text) ∷ []

abbrev pub status_fields : ℕ → List ℕ → List Header
status_fields status text = field (codes "grpc-status") (decimal status) ∷ message_fields text

-- what ends an answer; where it is all of it, the response's head stands before it (Trailers-Only)
unfoldable pub trailer_fields : ℕ → List ℕ → Bool → List Header
trailer_fields status text alone = (if alone then response_fields else []) ++ status_fields status text

-- what a refused call is answered; HTTP's refusals are the answer's only header list
unfoldable pub refused_fields : Refusal → Bool → List Header
refused_fields r alone =
    if is_http_refusal r then field (codes ":status") (decimal (status_of r)) ∷ [] else trailer_fields (status_of r) (text_of r) alone
