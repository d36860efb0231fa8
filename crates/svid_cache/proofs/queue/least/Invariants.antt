use Rattle.std.proofs.Common.{take}
use Rattle.svid_cache.specs.Queue.{NoneBelow, IsLatest, last_second}
use Rattle.svid_cache.proofs.queue.least.Given as goal

abbrev pub invariant-loop-first : goal.invariant-loop-first
invariant-loop-first l = record {
  fits : NoneBelow l.least (take l.first-index l.firsts);
  exact : IsLatest last_second (λ s. NoneBelow s (take l.first-index l.firsts)) l.least;
}
