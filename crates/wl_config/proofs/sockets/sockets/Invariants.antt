use Rattle.std.proofs.Common.{◌<◌, ◌≤◌, [], ◌++◌, length}
use Rattle.json_members.proofs.Walks.{Reached}
use Rattle.wl_config.specs.Sockets.{socket_of, SocketsWithin}
use Rattle.wl_config.proofs.sockets.sockets.Given as goal

abbrev pub invariant-loop-value : goal.invariant-loop-value
invariant-loop-value l = record {
  read : Reached socket_of (λ before more. before ++ more) [] l.values l.index l.value-index l.done.items;
  within : SocketsWithin l.done.items;
  few : length l.done.items ≤ 4096;
  some : 0 < l.value-index → 0 < length l.done.items;
}
