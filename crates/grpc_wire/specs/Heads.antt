-- The verdict on a call's head.
use Rattle.std.specs.Prelude.{ℕ, Bool, false, not, ◌&&◌, if◌then◌else◌, nat_eq, List, codes, Option, Some, None}
use Rattle.std.specs.List.{list_any, starts_with}
use Rattle.std.specs.Option.{option_map_or}
use Rattle.std.specs.Str.{bytes_eq}
use Rattle.wl_octets.specs.declared.header.Header.{Header}
use Rattle.h2_headers.specs.Heads.{is_good_head}
use Rattle.h2_headers.specs.Values.{only_value}
use Rattle.grpc_wire.specs.declared.head.HeadVerdict.{HeadVerdict}
use Rattle.grpc_wire.specs.declared.head.HeadVerdict.TheVariants.{Malformed, Refused, Call}
use Rattle.grpc_wire.specs.declared.method.Method.{Method}
use Rattle.grpc_wire.specs.declared.refusal.Refusal.TheVariants as refusals
use Rattle.grpc_wire.specs.Methods.{method_of, is_health_method}

-- a field is there once, and its value passes
abbrev pub passes_once : (List ℕ → Bool) → List ℕ → List Header → Bool
passes_once test name hs = option_map_or test (only_value name hs) false

-- PROTOCOL-HTTP2 of gRPC: requests are POST
abbrev pub is_post : List Header → Bool
is_post hs = passes_once (λ v. bytes_eq v (codes "POST")) (codes ":method") hs

-- PROTOCOL-HTTP2 of gRPC: the content type begins so; own rule: it is there once
abbrev pub is_grpc : List Header → Bool
is_grpc hs = passes_once (λ v. starts_with nat_eq v (codes "application/grpc")) (codes "content-type") hs

-- own rule: requests are not compressed
abbrev pub is_encoded : Header → Bool
is_encoded h = bytes_eq h.name (codes "grpc-encoding") && not (bytes_eq h.value (codes "identity"))

-- SPIFFE Workload Endpoint, section 3: the security header; own rule: it is there once
abbrev pub is_secure : List Header → Bool
is_secure hs = passes_once (λ v. bytes_eq v (codes "true")) (codes "workload.spiffe.io") hs

-- a known method: the Workload API's ask for the security header, and those of the health service don't
unfoldable pub method_verdict : Option Method → List Header → HeadVerdict
method_verdict None hs = Refused refusals.UnknownPath
method_verdict (Some m) hs =
    if list_any is_encoded hs then Refused refusals.Compressed
    else if not (is_health_method m) && not (is_secure hs) then Refused refusals.Insecure
    else Call m

-- the method that a head names
abbrev pub method_at : Option (List ℕ) → Option Method
method_at None = None
method_at (Some path) = method_of path

-- The first cause that applies, in this order (own rule).
unfoldable pub head_verdict : List Header → HeadVerdict
head_verdict hs =
    if not (is_good_head hs) then Malformed
    else if not (is_post hs) then Refused refusals.BadMethod
    else if not (is_grpc hs) then Refused refusals.BadContent
    else method_verdict (method_at (only_value (codes ":path") hs)) hs
