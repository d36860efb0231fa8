use Rattle.std.proofs.Common.{◌≤◌, take}
use Rattle.svid_cache.specs.Queue.{AllBegunBy, IsEarliest}
use Rattle.svid_cache.proofs.kept.last_begin.Given as goal

abbrev pub invariant-loop-svid : goal.invariant-loop-svid
invariant-loop-svid l = record {
  begun : AllBegunBy l.last (take l.svid-index l.svids);
  other : l.other ≤ l.last;
  exact : IsEarliest l.other (λ s. AllBegunBy s (take l.svid-index l.svids)) l.last;
}
