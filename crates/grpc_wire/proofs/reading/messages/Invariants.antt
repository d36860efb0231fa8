use Rattle.std.proofs.Common.{◌≡◌, ◌≤◌, length, drop, ◌-◌}
use Rattle.grpc_wire.specs.Messages.{messages_of}
use Rattle.list_laws.proofs.Gains.{GainsUpTo}
use Rattle.grpc_wire.proofs.reading.messages.Given as goal

abbrev pub invariant-each : goal.invariant-each
invariant-each l = record {
  within : l.at ≤ length l.bytes;
  gains : GainsUpTo (messages_of l.limit l.bytes).messages (messages_of l.limit (drop l.at l.bytes)).messages l.initial.into l.into;
  ending : (messages_of l.limit (drop l.at l.bytes)).ending ≡ (messages_of l.limit l.bytes).ending;
}

abbrev pub decreases-each : goal.decreases-each
decreases-each l = length l.bytes - l.at
