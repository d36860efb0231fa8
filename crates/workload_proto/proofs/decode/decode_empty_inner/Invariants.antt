use Rattle.std.proofs.Common.{◌≡◌, ◌-◌, length}
use Rattle.pb_wire.specs.Message.{fields_from}
use Rattle.pb_wire.specs.Strings.{said_by}
use Rattle.workload_proto.specs.Requests.{is_no_field, says_nothing, empty_of}
use Rattle.workload_proto.proofs.decode.decode_empty_inner.Given as goal

abbrev pub invariant-loop-at : goal.invariant-loop-at
invariant-loop-at l = said_by is_no_field says_nothing l.bytes (fields_from l.bytes l.at) ≡ empty_of l.bytes

abbrev pub decreases-loop-at : goal.decreases-loop-at
decreases-loop-at l = length l.bytes - l.at
