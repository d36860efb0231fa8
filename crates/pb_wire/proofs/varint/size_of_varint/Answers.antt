use Rattle.std.proofs.Common.{length, arith, ap}
use Rattle.pb_wire.proofs.Varints.{varint-small, varint-more, varint-least, varint-most}
use Rattle.pb_wire.proofs.varint.size_of_varint.Goals as goal

pub overflow_add-size : goal.overflow_add-size
overflow_add-size c = omega (arith, varint-most c.args.value c.ranges.value.fits)

pub loop-rest-preserved : goal.loop-rest-preserved
loop-rest-preserved c =
    let longer = ap length (varint-more c.loop-rest.rest c.loop-rest-test.true) in
    record { counted = omega (arith, longer); least = omega arith }

pub returns-clause-size : goal.returns-clause-size
returns-clause-size c = omega (arith, ap length (varint-small c.loop-rest.rest c.loop-rest-test.false))

pub returns-clause-most : goal.returns-clause-most
returns-clause-most c = omega (arith, varint-least c.loop-rest.rest, varint-most c.args.value c.ranges.value.fits)
