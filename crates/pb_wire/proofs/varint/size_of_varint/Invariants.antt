use Rattle.std.proofs.Common.{◌+◌, ◌≡◌, ◌≤◌, length}
use Rattle.pb_wire.specs.Varint.{varint}
use Rattle.pb_wire.proofs.varint.size_of_varint.Given as goal

abbrev pub invariant-loop-rest : goal.invariant-loop-rest
invariant-loop-rest l = record {
  counted : l.size + length (varint l.rest) ≡ 1 + length (varint l.value);
  least : 1 ≤ l.size;
}

abbrev pub decreases-loop-rest : goal.decreases-loop-rest
decreases-loop-rest l = l.rest
