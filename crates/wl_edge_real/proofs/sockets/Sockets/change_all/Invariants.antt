use Rattle.std.specs.Prelude.{map}
use mathlib.Core.List.{IsPrefix}
use Rattle.wl_edge_real.specs.Places.{socket_of}
use Rattle.wl_edge_real.proofs.sockets.Sockets.change_all.Given as goal

abbrev pub invariant-loop : goal.invariant-loop
invariant-loop l = IsPrefix (map (λ p. socket_of p.origin) l.fn.self.places.items) (map (λ p. socket_of p.origin) l.self.places.items)
