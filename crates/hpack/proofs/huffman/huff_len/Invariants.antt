use Rattle.std.proofs.Common.{◌≡◌, ◌+◌, ◌*◌, ◌≤◌, drop}
use Rattle.hpack.specs.Huffman.{coded_length}
use Rattle.hpack.proofs.huffman.huff_len.Given as goal

abbrev pub invariant-loop-symbol : goal.invariant-loop-symbol
invariant-loop-symbol l = record {
  total : l.count + coded_length (drop l.symbol-index l.text) ≡ coded_length l.text;
  small : l.count ≤ 30 * l.symbol-index;
}
