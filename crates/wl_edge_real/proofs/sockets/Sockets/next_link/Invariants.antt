use Rattle.std.proofs.Common.{◌≡◌}
use Rattle.wl_edge_real.proofs.sockets.Sockets.next_link.Given as goal

abbrev pub invariant-loop : goal.invariant-loop
invariant-loop l = l.self.places ≡ l.fn.self.places
