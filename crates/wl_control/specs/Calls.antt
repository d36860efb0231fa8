-- The call that a request makes (own rules).
use Rattle.std.specs.Prelude.{ℕ, true, false, Bool, if◌then◌else◌, List, [], ◌++◌, Option, Some, None}
use Rattle.std.specs.List.{flat_map}
use Rattle.pb_wire.specs.Spelling.{field, optional_field}
use Rattle.workload_proto.specs.declared.field_number.TheConstants.{JWT_REQUEST_AUDIENCE, JWT_REQUEST_SPIFFE_ID}
use Rattle.grpc_wire.specs.declared.method.Method.{Method}
use Rattle.grpc_wire.specs.declared.method.Method.TheVariants as methods
use Rattle.bundle_files.specs.declared.kind.BundleKind.TheVariants as bundle_kinds
use Rattle.wl_control.specs.declared.asked.Asked.{Asked}
use Rattle.wl_control.specs.declared.asked.Kind.{Kind}
use Rattle.wl_control.specs.declared.asked.Kind.TheVariants.{X509, X509Frame, BundlesFrame, Bundles, Jwt, DecodedJwt, JwtBundles, State}
use Rattle.wl_control.specs.declared.call.TheConstants.{HEALTH_REQUEST_SERVICE}
use Rattle.wl_control.specs.declared.request.Form.TheVariants.{Lines}
use Rattle.wl_control.specs.declared.request.TokenForm.{TokenForm}
use Rattle.wl_control.specs.declared.request.TokenAsk.{TokenAsk}
use Rattle.wl_control.specs.declared.request.Request.{Request}
use Rattle.wl_control.specs.declared.request.Request.TheVariants.{FetchX509, FetchBundles, FetchJwt, FetchJwtBundles, Watch, Keep, KeepBundles, Health, HealthWatch}

abbrev pub method_of : Request → Method
method_of (FetchX509 form) = methods.X509Svid
method_of (FetchBundles form) = methods.X509Bundles
method_of (FetchJwt ask) = methods.JwtSvid
method_of (FetchJwtBundles form) = methods.JwtBundles
method_of (Watch count) = methods.X509Svid
method_of (Keep count) = methods.X509Svid
method_of (KeepBundles bundle_kinds.X509) = methods.X509Bundles
method_of (KeepBundles bundle_kinds.Jwt) = methods.JwtBundles
method_of (Health service) = methods.HealthCheck
method_of (HealthWatch count) = methods.HealthWatch

-- how many messages, and whether the status 0 is awaited after them: the streams of Workload API and of Watch have no end
abbrev pub stream_of : Kind → ℕ → Asked
stream_of kind count = record { kind = kind; left = count; awaits = false }

abbrev pub answer_of : Kind → Asked
answer_of kind = record { kind = kind; left = 1; awaits = true }

abbrev pub jwt_kind : Bool → TokenForm → Kind
jwt_kind is_decoded form = if is_decoded then DecodedJwt form else Jwt form

abbrev pub asked_of : Request → Asked
asked_of (FetchX509 form) = stream_of (X509 form) 1
asked_of (FetchBundles form) = stream_of (Bundles form) 1
asked_of (FetchJwt ask) = answer_of (jwt_kind ask.is_decoded ask.form)
asked_of (FetchJwtBundles form) = stream_of (JwtBundles form) 1
asked_of (Watch count) = stream_of (X509 Lines) count
asked_of (Keep count) = stream_of X509Frame count
asked_of (KeepBundles kind) = stream_of (BundlesFrame kind) 1
asked_of (Health service) = answer_of State
asked_of (HealthWatch count) = stream_of State count

-- the id of a `JWTSVIDRequest`, if it names one
abbrev pub id_field : Option (List ℕ) → List ℕ
id_field None = []
id_field (Some id) = field JWT_REQUEST_SPIFFE_ID id

unfoldable pub token_message : TokenAsk → List ℕ
token_message ask = flat_map (field JWT_REQUEST_AUDIENCE) ask.audiences ++ id_field ask.id

-- the message: a `JWTSVIDRequest`, the service of a `HealthCheckRequest`, or nothing
unfoldable pub message_of : Request → List ℕ
message_of (FetchX509 form) = []
message_of (FetchBundles form) = []
message_of (FetchJwtBundles form) = []
message_of (FetchJwt ask) = token_message ask
message_of (Watch count) = []
message_of (Keep count) = []
message_of (KeepBundles kind) = []
message_of (Health service) = optional_field HEALTH_REQUEST_SERVICE service
message_of (HealthWatch count) = []
