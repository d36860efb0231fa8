use Rattle.hpack.proofs.Texts.{ok-from_gives, only-from_gives, err-from_gives}
use Rattle.hpack.proofs.huffman.huff_decode.Goals as goal

pub returns-clause-ok : goal.returns-clause-ok
returns-clause-ok c = ok-from_gives c.decode.result c.args.bytes.now c.decode.ensures

pub returns-clause-only : goal.returns-clause-only
returns-clause-only c = only-from_gives c.decode.result c.args.bytes.now c.decode.ensures

pub returns-clause-err : goal.returns-clause-err
returns-clause-err c = err-from_gives c.decode.result c.args.bytes.now c.decode.ensures
