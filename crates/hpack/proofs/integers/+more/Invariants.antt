use Rattle.std.proofs.Common.{length}
use Rattle.hpack.proofs.integers.+more.Given as goal

abbrev pub decreases-more : goal.decreases-more
decreases-more l = length l.bytes.now
