-- What the message of a request says. Own rules: which refusal each fault has.
use Rattle.std.specs.Prelude.{◌≡◌, ℕ, ◌==◌, is_some, if◌then◌else◌, List, length, Option, Some, None, Result, Ok, Err}
use Rattle.spiffe_id.specs.Faults.{id_fault}
use Rattle.workload_proto.specs.declared.message.JwtRequest.{JwtRequest}
use Rattle.pb_wire.specs.declared.fault.FieldFault.{FieldFault}
use Rattle.workload_proto.specs.Requests.{jwt_request_of, empty_of}
use Rattle.wl_health.specs.Messages.{service_of}
use Rattle.grpc_wire.specs.declared.method.Method.{Method}
use Rattle.grpc_wire.specs.declared.method.Method.TheVariants.{X509Svid, X509Bundles, JwtBundles, JwtSvid, HealthCheck, HealthWatch}
use Rattle.grpc_wire.specs.declared.refusal.Refusal.{Refusal}
use Rattle.grpc_wire.specs.declared.refusal.Refusal.TheVariants.{Undecodable, NoAudience, BadId}
use Rattle.grpc_conn.specs.declared.request.Request.{Request}
use Rattle.grpc_conn.specs.declared.request.Request.TheVariants.{Plain, Jwt, Health}
use Rattle.grpc_conn.specs.declared.request.RequestFault.{RequestFault}
use Rattle.grpc_conn.specs.declared.request.RequestFault.TheVariants.{Refused, Memory}

-- the id that is named, if one is
abbrev pub named_id : List ℕ → Result (Option (List ℕ)) Refusal
named_id text =
    if length text == 0 then Ok None
    else if is_some (id_fault text) then Err BadId
    else Ok (Some text)

abbrev pub jwt_with_id : List (List ℕ) → Result (Option (List ℕ)) Refusal → Result Request Refusal
jwt_with_id audience (Ok id) = Ok (Jwt audience id)
jwt_with_id audience (Err refusal) = Err refusal

-- own rules: a request of a JWT-SVID names an audience, and no id or a SPIFFE ID
abbrev pub jwt_with_audience : JwtRequest → Result Request Refusal
jwt_with_audience r = if length r.audience == 0 then Err NoAudience else jwt_with_id r.audience (named_id r.spiffe_id)

abbrev pub jwt_if_readable : Result JwtRequest FieldFault → Result Request Refusal
jwt_if_readable (Ok r) = jwt_with_audience r
jwt_if_readable (Err fault) = Err Undecodable

abbrev pub jwt_in : List ℕ → Result Request Refusal
jwt_in m = jwt_if_readable (jwt_request_of m)

abbrev pub health_if_readable : Result (List ℕ) FieldFault → Result Request Refusal
health_if_readable (Ok service) = Ok (Health service)
health_if_readable (Err fault) = Err Undecodable

abbrev pub health_in : List ℕ → Result Request Refusal
health_in m = health_if_readable (service_of m)

abbrev pub plain_if_readable : Result (Unit {0}) FieldFault → Result Request Refusal
plain_if_readable (Ok x) = Ok Plain
plain_if_readable (Err fault) = Err Undecodable

abbrev pub plain_in : List ℕ → Result Request Refusal
plain_in m = plain_if_readable (empty_of m)

-- what a message says to a method
unfoldable pub request_of : Method → List ℕ → Result Request Refusal
request_of JwtSvid m = jwt_in m
request_of HealthCheck m = health_in m
request_of HealthWatch m = health_in m
request_of X509Svid m = plain_in m
request_of X509Bundles m = plain_in m
request_of JwtBundles m = plain_in m

-- an answer is what is due, unless memory ran out
abbrev pub ReadsId : Result (Option (List ℕ)) RequestFault → Result (Option (List ℕ)) Refusal → Type 0
ReadsId (Ok id) due = due ≡ Ok id
ReadsId (Err (Refused refusal)) due = due ≡ Err refusal
ReadsId (Err Memory) due = Unit {0}

abbrev pub Reads : Result Request RequestFault → Result Request Refusal → Type 0
Reads (Ok r) due = due ≡ Ok r
Reads (Err (Refused refusal)) due = due ≡ Err refusal
Reads (Err Memory) due = Unit {0}
