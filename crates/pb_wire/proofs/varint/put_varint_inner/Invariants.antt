use Rattle.std.proofs.Common.{◌≡◌, ◌++◌, List, ℕ}
use Rattle.pb_wire.specs.Varint.{varint}
use Rattle.pb_wire.proofs.varint.put_varint_inner.Given as goal

-- the part that was written, and what is still due of the number
abbrev pub invariant-loop-rest : goal.invariant-loop-rest
invariant-loop-rest l = (part : List ℕ) × (l.out.items ≡ l.fn.out.items ++ part) × (varint l.value ≡ part ++ varint l.rest)

abbrev pub decreases-loop-rest : goal.decreases-loop-rest
decreases-loop-rest l = l.rest
