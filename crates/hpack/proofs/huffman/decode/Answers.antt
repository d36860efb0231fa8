use Rattle.std.proofs.Common.{◌+◌, drop, get_or}
use Rattle.std.proofs.lemmas.List.{drop_more, drop_all}
use Rattle.std.proofs.lemmas.Result.{err_from_is_err_and}
use Rattle.hpack.specs.Huffman.{bits_of}
use Rattle.hpack.proofs.Texts.{ends_taken, ends_refused, stops}
use Rattle.hpack.proofs.huffman.decode.Goals as goal

pub returns-in_err-node : goal.returns-in_err-node
returns-in_err-node c =
    let p = err_from_is_err_and c.from_residual-in_err-node.result c.from_residual-in_err-node.ensures.1 in
    let bytes = c.args.bytes.now in
    let i = c.loop-byte.byte-index in
    let there = rw (drop_more bytes i 0 c.loop-byte-test.true) at c.loop-byte.invariant in
    rw (p.1, p.2) (stops c.in_err-node.field-0.0 bytes c.loop-byte.text.items c.loop-byte.node (get_or bytes i 0) (bits_of (drop (i + 1) bytes)) there c.in_err-node.ensures)

pub returns-then-node-lt8 : goal.returns-then-node-lt8
returns-then-node-lt8 c =
    let there = rw (drop_all c.loop-byte.byte-index c.args.bytes.now c.loop-byte-test.false) at c.loop-byte.invariant in
    rw c.from_vec.ensures (ends_taken c.args.bytes.now c.loop-byte.text.items c.loop-byte.node there c.if-node-lt8.true)

pub returns-else-node-lt8 : goal.returns-else-node-lt8
returns-else-node-lt8 c =
    let there = rw (drop_all c.loop-byte.byte-index c.args.bytes.now c.loop-byte-test.false) at c.loop-byte.invariant in
    ends_refused c.args.bytes.now c.loop-byte.text.items c.loop-byte.node there c.if-node-lt8.false
