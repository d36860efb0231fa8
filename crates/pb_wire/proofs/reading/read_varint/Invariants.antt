use Rattle.std.proofs.Common.{◌≡◌, ◌≤◌, ◌<◌, ◌^◌, ◌-◌, drop}
use Rattle.pb_wire.specs.Reading.{varint_from}
use Rattle.pb_wire.proofs.Digits.{with_low}
use Rattle.pb_wire.proofs.reading.read_varint.Given as goal

abbrev pub invariant-loop-i : goal.invariant-loop-i
invariant-loop-i l = record {
  few : l.i ≤ 9;
  unit : l.unit ≡ 128 ^ l.i;
  low : l.low < l.unit;
  so_far : with_low l.low l.unit l.i (varint_from l.at (9 - l.i) (drop l.i l.rest)) ≡ varint_from l.at 9 l.rest;
}
