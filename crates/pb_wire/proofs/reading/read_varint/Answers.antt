use Rattle.std.proofs.Common.{◌<◌, ◌+◌, ◌-◌, ◌*◌, ◌^◌, Ok, Err, arith, ap, add-one}
use Rattle.std.proofs.Math.Nat.{pow-succ'}
use Rattle.pb_wire.specs.declared.fault.WireFault.TheVariants.{Truncated, VarintLong}
use Rattle.pb_wire.specs.Reading.{varint_from}
use Rattle.pb_wire.proofs.Digits.{goes_on, ends, ends_tenth, is_long, is_short, low_below, unit_below, byte_below, at_place}
use Rattle.pb_wire.proofs.reading.read_varint.Goals as goal

pub returns-then-byte-lt2-clause-value : goal.returns-then-byte-lt2-clause-value
returns-then-byte-lt2-clause-value c =
    let rest = c.split_at.result.1.now in
    let read = ends_tenth c.args.at c.loop-i.low c.loop-i.unit c.loop-i.i c.from-byte.result rest (varint_from c.args.at 9 rest) c.if-i-eq9.true c.loop-i-test.true c.from-byte.ensures c.if-byte-lt2.true c.loop-i.invariant.so_far in
    at_place c.args.bytes.now c.args.at rest (Ok (c.loop-i.low + c.loop-i.unit * c.from-byte.result, 10)) c.split_at.ensures.back read

pub returns-then-i-eq9-clause-value : goal.returns-then-i-eq9-clause-value
returns-then-i-eq9-clause-value c =
    let rest = c.split_at.result.1.now in
    let read = is_long c.args.at c.loop-i.low c.loop-i.unit c.loop-i.i c.from-byte.result rest (varint_from c.args.at 9 rest) c.if-i-eq9.true c.loop-i-test.true c.from-byte.ensures c.if-byte-lt2.false c.loop-i.invariant.so_far in
    at_place c.args.bytes.now c.args.at rest (Err (VarintLong c.args.at)) c.split_at.ensures.back read

pub overflow_mul-result-then-byte-lt128 : goal.overflow_mul-result-then-byte-lt128
overflow_mul-result-then-byte-lt128 c = omega (arith, low_below c.loop-i.low c.loop-i.unit c.from-byte.result c.loop-i.invariant.low c.if-byte-lt128.true, unit_below c.loop-i.unit c.loop-i.i (omega arith) c.loop-i.invariant.unit)

pub overflow_add-result-then-byte-lt128 : goal.overflow_add-result-then-byte-lt128
overflow_add-result-then-byte-lt128 c = omega (arith, low_below c.loop-i.low c.loop-i.unit c.from-byte.result c.loop-i.invariant.low c.if-byte-lt128.true, unit_below c.loop-i.unit c.loop-i.i (omega arith) c.loop-i.invariant.unit)

pub returns-then-byte-lt128-clause-value : goal.returns-then-byte-lt128-clause-value
returns-then-byte-lt128-clause-value c =
    let rest = c.split_at.result.1.now in
    let read = ends c.args.at c.loop-i.low c.loop-i.unit c.loop-i.i c.from-byte.result rest (varint_from c.args.at 9 rest) (omega arith) c.loop-i-test.true c.from-byte.ensures c.if-byte-lt128.true c.loop-i.invariant.so_far in
    at_place c.args.bytes.now c.args.at rest (Ok (c.loop-i.low + c.loop-i.unit * c.from-byte.result, c.loop-i.i + 1)) c.split_at.ensures.back read

pub overflow_mul-low : goal.overflow_mul-low
overflow_mul-low c =
    let digit = byte_below c.args.bytes.now c.split_at.result.1.now c.args.at c.loop-i.i c.from-byte.result (λ k. omega (arith, c.type_inv.bytes k)) c.split_at.ensures.back c.from-byte.ensures in
    let low = low_below c.loop-i.low c.loop-i.unit (c.from-byte.result - 128) c.loop-i.invariant.low (omega (arith, digit)) in
    omega (arith, low, unit_below c.loop-i.unit c.loop-i.i (omega arith) c.loop-i.invariant.unit)

pub overflow_add-low : goal.overflow_add-low
overflow_add-low c =
    let digit = byte_below c.args.bytes.now c.split_at.result.1.now c.args.at c.loop-i.i c.from-byte.result (λ k. omega (arith, c.type_inv.bytes k)) c.split_at.ensures.back c.from-byte.ensures in
    let low = low_below c.loop-i.low c.loop-i.unit (c.from-byte.result - 128) c.loop-i.invariant.low (omega (arith, digit)) in
    omega (arith, low, unit_below c.loop-i.unit c.loop-i.i (omega arith) c.loop-i.invariant.unit)

pub overflow_mul-unit : goal.overflow_mul-unit
overflow_mul-unit c = omega (arith, unit_below c.loop-i.unit c.loop-i.i (omega arith) c.loop-i.invariant.unit)

pub loop-i-preserved : goal.loop-i-preserved
loop-i-preserved c =
    let digit = byte_below c.args.bytes.now c.split_at.result.1.now c.args.at c.loop-i.i c.from-byte.result (λ k. omega (arith, c.type_inv.bytes k)) c.split_at.ensures.back c.from-byte.ensures in
    let low = low_below c.loop-i.low c.loop-i.unit (c.from-byte.result - 128) c.loop-i.invariant.low (omega (arith, digit)) in
    let few : c.loop-i.i < 9 = omega arith in
    record {
      few = omega arith;
      unit = omega (arith, c.loop-i.invariant.unit, pow-succ' 128 c.loop-i.i, add-one c.loop-i.i, ap (λ n. 128 ^ n) (add-one c.loop-i.i));
      low = low;
      so_far = goes_on c.args.at c.loop-i.low c.loop-i.unit c.loop-i.i c.from-byte.result c.split_at.result.1.now _ few c.loop-i-test.true c.from-byte.ensures c.if-byte-lt128.false c.loop-i.invariant.so_far;
    }

pub returns-clause-value : goal.returns-clause-value
returns-clause-value c =
    let rest = c.split_at.result.1.now in
    let read = is_short c.args.at c.loop-i.low c.loop-i.unit c.loop-i.i rest (varint_from c.args.at 9 rest) (omega arith) c.loop-i.invariant.so_far in
    at_place c.args.bytes.now c.args.at rest (Err (Truncated c.args.at)) c.split_at.ensures.back read
