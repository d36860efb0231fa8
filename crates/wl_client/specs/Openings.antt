-- What a client sends first (RFC 9113, sections 3.4 and 8.3.1; PROTOCOL-HTTP2 of gRPC, "Requests").
use Rattle.std.specs.Prelude.{ℕ, true, false, List, [], ◌∷◌, ◌++◌, codes, length}
use Rattle.wl_octets.specs.declared.header.Header.{Header}
use Rattle.h2_frame.specs.declared.frame.Frame.{Frame}
use Rattle.h2_frame.specs.declared.frame.Body.TheVariants.{Bytes, Headers, Settings}
use Rattle.h2_frame.specs.Reading.{preface}
use Rattle.h2_frame.specs.Writing.{frame_encoding}
use Rattle.hpack.specs.Writing.{block_bytes}
use Rattle.grpc_wire.specs.declared.method.Method.{Method}
use Rattle.grpc_wire.specs.Methods.{path_of}
use Rattle.grpc_wire.specs.Messages.{framed}
use Rattle.grpc_wire.specs.Answers.{field}

-- own rule: the authority is localhost, and every call has the security header, those of the health service too (SPIFFE
-- Workload Endpoint, section 3, asks for it in those of the Workload API)
unfoldable pub call_fields : Method → List Header
call_fields method =
    field (codes ":method") (codes "POST")
    ∷ field (codes ":scheme") (codes "http")
    ∷ field (codes ":path") (path_of method)
    ∷ field (codes ":authority") (codes "localhost")
    ∷ field (codes "content-type") (codes "application/grpc")
    ∷ field (codes "te") (codes "trailers")
    ∷ field (codes "workload.spiffe.io") (codes "true")
    ∷ []

-- the one stream of a client
abbrev pub call_stream : ℕ
call_stream = 1

-- SETTINGS with no pair, the head, and the message as DATA that ends the request
abbrev pub settings_frame : Frame
settings_frame = record { stream = 0; body = Settings [] }

abbrev pub head_frame : Method → Frame
head_frame method = record { stream = call_stream; body = Headers (block_bytes (call_fields method)) false true }

abbrev pub message_frame : List ℕ → Frame
message_frame message = record { stream = call_stream; body = Bytes (framed message) (length (framed message)) true }

unfoldable pub opening_of : Method → List ℕ → List ℕ
opening_of method message = preface ++ frame_encoding settings_frame ++ frame_encoding (head_frame method) ++ frame_encoding (message_frame message)
