use Rattle.std.proofs.Common.{◌≡◌, ◌-◌, length}
use Rattle.pb_wire.specs.Message.{fields_from}
use Rattle.pb_wire.specs.Strings.{said_by}
use Rattle.wl_health.specs.Messages.{is_service_field, asked_in, service_of}
use Rattle.wl_health.proofs.decode.read_service.Given as goal

-- what is read and what is left say what all of it says
abbrev pub invariant-loop-at : goal.invariant-loop-at
invariant-loop-at l = said_by is_service_field (asked_in l.bytes l.service) l.bytes (fields_from l.bytes l.at) ≡ service_of l.bytes

abbrev pub decreases-loop-at : goal.decreases-loop-at
decreases-loop-at l = length l.bytes - l.at
