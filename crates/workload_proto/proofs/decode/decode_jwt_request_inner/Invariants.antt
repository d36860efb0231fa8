use Rattle.std.proofs.Common.{◌≡◌, ◌-◌, length}
use Rattle.pb_wire.specs.Message.{fields_from}
use Rattle.pb_wire.specs.Strings.{said_by}
use Rattle.workload_proto.specs.Requests.{is_jwt_field, asked_in, jwt_request_of}
use Rattle.workload_proto.proofs.decode.decode_jwt_request_inner.Given as goal

-- what is read and what is left say what all of it says
abbrev pub invariant-loop-at : goal.invariant-loop-at
invariant-loop-at l = said_by is_jwt_field (asked_in l.bytes l.request) l.bytes (fields_from l.bytes l.at) ≡ jwt_request_of l.bytes

abbrev pub decreases-loop-at : goal.decreases-loop-at
decreases-loop-at l = length l.bytes - l.at
