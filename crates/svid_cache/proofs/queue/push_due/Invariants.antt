use Rattle.std.proofs.Common.{◌≡◌, ◌++◌, filter, take}
use Rattle.svid_cache.specs.Caches.{is_due}
use Rattle.svid_cache.proofs.queue.push_due.Given as goal

abbrev pub invariant-loop-ask : goal.invariant-loop-ask
invariant-loop-ask l = l.due.items ≡ l.fn.due.items ++ filter (is_due l.renew_before l.now l.svids) (take l.ask-index l.asks)
