-- What a refused call is answered. All statuses and texts are own rules, also where other agents answer otherwise.
use Rattle.std.specs.Prelude.{ℕ, Bool, ◌==◌, ◌||◌, List, [], codes}
use Rattle.grpc_wire.specs.declared.refusal.Refusal.{Refusal}
use Rattle.grpc_wire.specs.declared.refusal.Refusal.TheVariants.{BadMethod, BadContent, UnknownPath, Compressed, Insecure, Flag, LongRequest, Count, Undecodable, NoAudience, BadId, NoIdentity, LongResponse, Unsigned, Unattested, UnknownService}
use Rattle.grpc_wire.specs.declared.status.TheConstants.{INVALID_ARGUMENT, NOT_FOUND, PERMISSION_DENIED, RESOURCE_EXHAUSTED, UNIMPLEMENTED, INTERNAL, UNAVAILABLE, HTTP_METHOD_NOT_ALLOWED, HTTP_UNSUPPORTED_MEDIA_TYPE}

-- the status of gRPC, or of HTTP for the two refusals that HTTP gives
abbrev pub status_of : Refusal → ℕ
status_of BadMethod = HTTP_METHOD_NOT_ALLOWED
status_of BadContent = HTTP_UNSUPPORTED_MEDIA_TYPE
status_of UnknownPath = UNIMPLEMENTED
status_of Compressed = UNIMPLEMENTED
status_of Insecure = INVALID_ARGUMENT
status_of Flag = INTERNAL
status_of LongRequest = RESOURCE_EXHAUSTED
status_of Count = INTERNAL
status_of Undecodable = INTERNAL
status_of NoAudience = INVALID_ARGUMENT
status_of BadId = INVALID_ARGUMENT
status_of NoIdentity = PERMISSION_DENIED
status_of LongResponse = RESOURCE_EXHAUSTED
status_of Unsigned = UNAVAILABLE
status_of Unattested = UNAVAILABLE
status_of UnknownService = NOT_FOUND

abbrev pub text_of : Refusal → List ℕ
text_of BadMethod = []
text_of BadContent = []
text_of UnknownPath = codes "unknown method"
text_of Compressed = codes "compression is not supported"
text_of Insecure = codes "security header missing from request"
text_of Flag = codes "invalid message flag"
text_of LongRequest = codes "request message too long"
text_of Count = codes "request must hold one message"
text_of Undecodable = codes "request message cannot be decoded"
text_of NoAudience = codes "audience must be specified"
text_of BadId = codes "spiffe id is not valid"
text_of NoIdentity = codes "no identity issued"
text_of LongResponse = codes "response message too long"
text_of Unsigned = codes "jwt-svid cannot be signed"
text_of Unattested = codes "caller cannot be attested"
text_of UnknownService = codes "unknown service"

-- HTTP says it, and not gRPC
abbrev pub is_http_refusal : Refusal → Bool
is_http_refusal r = status_of r == HTTP_METHOD_NOT_ALLOWED || status_of r == HTTP_UNSUPPORTED_MEDIA_TYPE
