-- The verdict on a call: on its header list, the bytes of its body so far, and whether its request has ended. The first
-- cause that applies decides. Own rules: the statuses and texts of refusals, and that a request is one message.
use Rattle.std.specs.Prelude.{ℕ, Bool, true, false, not, nat_lt, if◌then◌else◌, List, length, drop, Option, Some, None, Result, Ok, Err}
use Rattle.wl_octets.specs.declared.header.Header.{Header}
use Rattle.grpc_wire.specs.declared.fault.MessageFault.{MessageFault}
use Rattle.grpc_wire.specs.declared.fault.MessageFault.TheVariants as faults
use Rattle.grpc_wire.specs.declared.head.HeadVerdict.{HeadVerdict}
use Rattle.grpc_wire.specs.declared.head.HeadVerdict.TheVariants as heads
use Rattle.grpc_wire.specs.declared.method.Method.{Method}
use Rattle.grpc_wire.specs.declared.refusal.Refusal.{Refusal}
use Rattle.grpc_wire.specs.declared.refusal.Refusal.TheVariants.{Flag, LongRequest, Count}
use Rattle.grpc_wire.specs.Heads.{head_verdict}
use Rattle.grpc_wire.specs.Messages.{prefix_of}
use Rattle.grpc_wire.specs.declared.prefix.TheConstants.{PREFIX_LEN}
use Rattle.workload_proto.specs.declared.limits.TheConstants.{MAX_REQUEST_LEN}
use Rattle.grpc_conn.specs.declared.event.CallEvent.{CallEvent}
use Rattle.grpc_conn.specs.declared.event.CallEvent.TheVariants.{Nothing, Malformed, Refuse, Ready}
use Rattle.grpc_conn.specs.declared.request.Request.{Request}
use Rattle.grpc_conn.specs.Requests.{request_of}

-- ---- the body

abbrev pub verdict_of_request : Method → List ℕ → Result Request Refusal → CallEvent
verdict_of_request method m (Ok request) = Ready method m request
verdict_of_request method m (Err refusal) = Refuse refusal

-- the one message is there, and the request has ended
abbrev pub whole_verdict : Method → List ℕ → CallEvent
whole_verdict method m = verdict_of_request method m (request_of method m)

-- after a prefix that says this length: a byte after the first whole message, or an end before it is whole
abbrev pub sized_verdict : Method → ℕ → List ℕ → Bool → CallEvent
sized_verdict method n after ended =
    if nat_lt n (length after) then Refuse Count
    else if not ended then Nothing
    else if nat_lt (length after) n then Refuse Count
    else whole_verdict method after

-- flag and length are those of the first message; a prefix never says that memory ran out
abbrev pub refusal_of_prefix : MessageFault → CallEvent
refusal_of_prefix (faults.Flag flag) = Refuse Flag
refusal_of_prefix (faults.TooLong n) = Refuse LongRequest
refusal_of_prefix faults.Memory = Nothing

-- an end within the prefix
abbrev pub part_verdict : Bool → CallEvent
part_verdict ended = if ended then Refuse Count else Nothing

abbrev pub prefix_verdict : Method → Result (Option ℕ) MessageFault → List ℕ → Bool → CallEvent
prefix_verdict method (Err fault) after ended = refusal_of_prefix fault
prefix_verdict method (Ok None) after ended = part_verdict ended
prefix_verdict method (Ok (Some n)) after ended = sized_verdict method n after ended

unfoldable pub body_verdict : Method → List ℕ → Bool → CallEvent
body_verdict method body ended = prefix_verdict method (prefix_of MAX_REQUEST_LEN body) (drop PREFIX_LEN body) ended

-- ---- head and body

abbrev pub verdict_of_call : HeadVerdict → List ℕ → Bool → CallEvent
verdict_of_call heads.Malformed body ended = Malformed
verdict_of_call (heads.Refused refusal) body ended = Refuse refusal
verdict_of_call (heads.Call method) body ended = body_verdict method body ended

unfoldable pub verdict : List Header → List ℕ → Bool → CallEvent
verdict headers body ended = verdict_of_call (head_verdict headers) body ended

-- ---- what is answered of it

-- the verdict is there
abbrev pub is_decided_event : CallEvent → Bool
is_decided_event Nothing = false
is_decided_event Malformed = true
is_decided_event (Refuse refusal) = true
is_decided_event (Ready method m request) = true

-- a verdict is given once
abbrev pub news : CallEvent → CallEvent → CallEvent
news Nothing now = now
news Malformed now = Nothing
news (Refuse refusal) now = Nothing
news (Ready method m request) now = Nothing
