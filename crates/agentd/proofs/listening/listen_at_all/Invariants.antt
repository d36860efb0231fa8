use Rattle.std.proofs.Common.{◌≡◌, [], map, take, Some}
use Rattle.wl_dealing.specs.Dealt.{socket_of}
use Rattle.agentd.proofs.OneMore.{sockets_seen, paths_seen, told_seen, shown, path_of}
use Rattle.agentd.proofs.listening.listen_at_all.Given as goal

abbrev pub invariant-loop-socket : goal.invariant-loop-socket
invariant-loop-socket g l =
    record {
      sockets : sockets_seen l.listener ≡ Some (map socket_of (map shown (take l.socket-index l.sockets)));
      paths : paths_seen l.listener ≡ map path_of (map shown (take l.socket-index l.sockets));
      fresh : l.listener.faults ≡ 0;
      told : told_seen l.listener ≡ Some (record { kinds = []; finished = [] });
    }
