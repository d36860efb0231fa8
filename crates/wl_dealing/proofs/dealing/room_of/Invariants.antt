use Rattle.std.proofs.Common.{◌≡◌, take, min, sum_by}
use Rattle.wl_dealing.proofs.dealing.room_of.Given as goal

abbrev pub invariant-loop-socket : goal.invariant-loop-socket
invariant-loop-socket l = l.room ≡ min 65536 (sum_by (λ s. s.fact.now.connections) (take l.socket-index l.sockets))
