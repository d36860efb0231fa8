use Rattle.std.proofs.Common.{◌≡◌, ◌++◌, take}
use Rattle.wl_edge.proofs.memory_ready.append.Given as goal

abbrev pub invariant-loop-number : goal.invariant-loop-number
invariant-loop-number l = l.into ≡ l.fn.into ++ take l.number-index l.numbers
