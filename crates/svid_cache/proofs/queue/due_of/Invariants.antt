use Rattle.std.proofs.Common.{◌≡◌, ◌++◌, filter, drop}
use Rattle.svid_cache.specs.Caches.{is_due}
use Rattle.svid_cache.specs.Queue.{Filed, NotBefore}
use Rattle.svid_cache.proofs.queue.due_of.Given as goal

abbrev pub invariant-loop-first : goal.invariant-loop-first
invariant-loop-first l = record {
  so_far : l.due.items ++ filter (is_due l.renew_before l.now l.svids) l.rest ≡ filter (is_due l.renew_before l.now l.svids) l.asks;
  ahead : Filed (NotBefore l.renew_before l.svids) l.size (drop l.first-index l.firsts) l.rest;
}
