-- What the header lists of an answer say (PROTOCOL-HTTP2 of gRPC, "Responses").
use Rattle.std.specs.Prelude.{ℕ, ◌-◌, ◌^◌, if◌then◌else◌, List, [], ◌∷◌, codes, Option, Some, None, unwrap_or, option_and_then}
use Rattle.std.specs.Str.{bytes_eq}
use Rattle.decimal_text.specs.Decimals.{number_up_to}
use Rattle.wl_octets.specs.declared.header.Header.{Header}
use Rattle.h2_headers.specs.Values.{values_of, only_value}

-- a decimal number below 2^32: one digit or more
abbrev pub number_in : List ℕ → Option ℕ
number_in value = number_up_to (2 ^ 32 - 1) value

-- own rule: a head has exactly one :status, and it is 200; the number of another one, or 0
unfoldable pub http_fault_of : Option (List ℕ) → Option ℕ
http_fault_of None = Some 0
http_fault_of (Some value) = if bytes_eq value (codes "200") then None else Some (unwrap_or (number_in value) 0)

abbrev pub http_fault : List Header → Option ℕ
http_fault hs = http_fault_of (only_value (codes ":status") hs)

-- own rule: a stream ends with exactly one grpc-status, a decimal number below 2^32
abbrev pub grpc_code : List Header → Option ℕ
grpc_code hs = option_and_then number_in (only_value (codes "grpc-status") hs)

abbrev pub first_value : List (List ℕ) → List ℕ
first_value [] = []
first_value (v ∷ more) = v

-- own rule: the text is the first grpc-message as it came, still percent-encoded, or empty
abbrev pub grpc_text : List Header → List ℕ
grpc_text hs = first_value (values_of (codes "grpc-message") hs)
