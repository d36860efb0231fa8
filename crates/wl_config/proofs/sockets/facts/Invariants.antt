use Rattle.std.proofs.Common.{◌≡◌, map, take}
use Rattle.std.specs.List.{AllByRecursion}
use Rattle.wl_config.specs.Sockets.{fact_of, SocketWithin}
use Rattle.wl_config.proofs.sockets.facts.Given as goal

abbrev pub invariant-loop-end : goal.invariant-loop-end
invariant-loop-end l = (l.facts.items ≡ map (fact_of l.connections l.texts) (take l.end-index l.ends)) × AllByRecursion SocketWithin l.facts.items
