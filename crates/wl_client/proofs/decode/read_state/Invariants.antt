use Rattle.std.proofs.Common.{◌≡◌, ◌-◌, length}
use Rattle.pb_wire.specs.Message.{fields_from}
use Rattle.wl_client.specs.Messages.{said_by, state_wrong, state_more, state_of}
use Rattle.wl_client.proofs.decode.read_state.Given as goal

-- what is read and what is left say what all of it says
abbrev pub invariant-loop-at : goal.invariant-loop-at
invariant-loop-at l = said_by state_wrong state_more l.state (fields_from l.bytes l.at) ≡ state_of l.bytes

abbrev pub decreases-loop-at : goal.decreases-loop-at
decreases-loop-at l = length l.bytes - l.at
