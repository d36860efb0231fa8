use Rattle.std.proofs.Common.{◌≡◌, drop}
use Rattle.hpack.specs.Huffman.{bits_of}
use Rattle.hpack.specs.Tree.{walk, with_text}
use Rattle.hpack.proofs.huffman.decode.Given as goal

abbrev pub invariant-loop-byte : goal.invariant-loop-byte
invariant-loop-byte l = walk 0 (bits_of l.bytes) ≡ with_text l.text.items (walk l.node (bits_of (drop l.byte-index l.bytes)))
