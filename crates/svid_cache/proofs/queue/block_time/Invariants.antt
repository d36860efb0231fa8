use Rattle.std.proofs.Common.{take}
use Rattle.std.specs.List.{AllByRecursion}
use Rattle.svid_cache.specs.Queue.{NotBefore, IsLatest, last_second}
use Rattle.svid_cache.proofs.queue.block_time.Given as goal

abbrev pub invariant-loop-ask : goal.invariant-loop-ask
invariant-loop-ask l = record {
  fits : AllByRecursion (NotBefore l.renew_before l.svids l.first) (take l.ask-index l.asks);
  exact : IsLatest last_second (λ s. AllByRecursion (NotBefore l.renew_before l.svids s) (take l.ask-index l.asks)) l.first;
}
