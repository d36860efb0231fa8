use Rattle.std.proofs.Common.{◌/◌, ◌%◌, arith}
use Rattle.std.proofs.lemmas.Result.{err_from_is_err_and}
use Rattle.hpack.specs.Huffman.{bits}
use Rattle.hpack.proofs.Bits.{bits-byte}
use Rattle.hpack.proofs.Walks.{step_joins, step_stops}
use Rattle.hpack.proofs.huffman.step_byte.Goals as goal

pub returns-in_err-middle : goal.returns-in_err-middle
returns-in_err-middle c =
    let p = err_from_is_err_and c.from_residual.result c.from_residual.ensures.1 in
    rw (p.1, p.2, bits-byte c.args.byte (omega arith)) (step_stops (bits 4 (c.args.byte / 16)) (bits 4 (c.args.byte % 16)) c.args.node c.args.text.now.items c.step.new.text.items c.step.new.text.items c.in_err-middle.field-0.0 c.in_err-middle.ensures)

pub returns : goal.returns
returns c = rw (bits-byte c.args.byte (omega arith)) (step_joins (bits 4 (c.args.byte / 16)) (bits 4 (c.args.byte % 16)) c.args.node c.in_ok-middle.middle c.args.text.now.items c.step.new.text.items c.step-2.new.text.items c.step-2.result c.in_ok-middle.ensures c.step-2.ensures)
