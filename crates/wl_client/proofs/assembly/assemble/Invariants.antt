use Rattle.std.proofs.Common.{◌≡◌, ◌++◌, length}
use Rattle.list_laws.proofs.Gains.{GainsUpTo}
use Rattle.grpc_wire.specs.Messages.{messages_of}
use Rattle.wl_client.specs.Assembling.{bytes_of, IsPart}
use Rattle.wl_client.proofs.assembly.assemble.Given as goal

abbrev pub invariant-loop-rest : goal.invariant-loop-rest
invariant-loop-rest l = record {
  part : IsPart l.limit l.begun;
  gains : GainsUpTo (messages_of l.limit (bytes_of l.initial.begun ++ l.piece)).messages (messages_of l.limit (bytes_of l.begun ++ l.rest)).messages l.initial.into l.into;
  ending : (messages_of l.limit (bytes_of l.begun ++ l.rest)).ending ≡ (messages_of l.limit (bytes_of l.initial.begun ++ l.piece)).ending;
}

abbrev pub decreases-loop-rest : goal.decreases-loop-rest
decreases-loop-rest l = length l.rest
