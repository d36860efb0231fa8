use Rattle.std.proofs.Common.{◌≡◌, length}
use Rattle.hpack.specs.Reading.{block_of, headers_of}
use Rattle.hpack.proofs.Headers.{with_front}
use Rattle.hpack.proofs.blocks.headers.Given as goal

abbrev pub invariant-each : goal.invariant-each
invariant-each l = block_of l.fn.table l.block ≡ with_front l.headers.items (headers_of l.table l.begun l.room l.rest)

abbrev pub decreases-each : goal.decreases-each
decreases-each l = length l.rest
