use Rattle.std.proofs.Common.{◌≡◌, take}
use Rattle.hpack.specs.Writing.{block_bytes}
use Rattle.hpack.proofs.encode.encode_plain.Given as goal

abbrev pub invariant-loop-header : goal.invariant-loop-header
invariant-loop-header l = l.out.items ≡ block_bytes (take l.header-index l.headers)
