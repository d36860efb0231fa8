use Rattle.std.proofs.Common.{◌≡◌, ◌-◌, length}
use Rattle.pb_wire.specs.Message.{fields_from}
use Rattle.wl_client.specs.Messages.{said_by, message_of}
use Rattle.wl_client.proofs.items.read_fields.Given as goal

-- what is read and what is left say what all of it says
abbrev pub invariant-loop-at : goal.invariant-loop-at
invariant-loop-at g l = said_by (g.M.Fields.wrong l.bytes) (g.M.Fields.more l.bytes) l.message (fields_from l.bytes l.at) ≡ message_of (g.M.Fields.wrong l.bytes) (g.M.Fields.more l.bytes) l.fn.nothing l.bytes

abbrev pub decreases-loop-at : goal.decreases-loop-at
decreases-loop-at g l = length l.bytes - l.at
