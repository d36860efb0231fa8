use Rattle.std.proofs.Common.{◌≡◌, min, sum, map, length, take}
use Rattle.wl_manager.proofs.keeping.size_of.Given as goal

-- the bytes of the texts so far
abbrev pub invariant-loop-one : goal.invariant-loop-one
invariant-loop-one l = l.size ≡ min (sum (map length (take l.one-index l.audience))) 18446744073709551615
