use Rattle.list_laws.specs.Lists.{BeginsWith}
use Rattle.wl_edge_real.proofs.watched.append.Given as goal

abbrev pub invariant-loop-number : goal.invariant-loop-number
invariant-loop-number l = BeginsWith l.into l.fn.into
