use Rattle.std.proofs.Common.{length}
use Rattle.svid_cache.specs.Queue.{NotBefore}
use Rattle.svid_cache.proofs.AskBlocks.{FiledUpTo}
use Rattle.svid_cache.proofs.queue.file_all.Given as goal

abbrev pub invariant-loop-rest : goal.invariant-loop-rest
invariant-loop-rest l = FiledUpTo (NotBefore l.renew_before l.svids) l.size l.firsts.items l.rest l.asks

abbrev pub decreases-loop-rest : goal.decreases-loop-rest
decreases-loop-rest l = length l.rest
