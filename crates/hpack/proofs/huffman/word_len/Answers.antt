use Rattle.std.proofs.Common.{◌≡◌, arith}
use Rattle.hpack.specs.Huffman.{length_of}
use Rattle.hpack.proofs.Texts.{length_of-small}
use Rattle.hpack.proofs.huffman.word_len.Goals as goal

pub returns-clause-small : goal.returns-clause-small
returns-clause-small c =
    let e : c.from-2.result ≡ length_of c.from.result = c.from-2.ensures in
    omega (arith, length_of-small c.from.result)
