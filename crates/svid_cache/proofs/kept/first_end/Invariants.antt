use Rattle.std.proofs.Common.{◌≤◌, take}
use Rattle.svid_cache.specs.Queue.{NoneEndsBefore, IsLatest}
use Rattle.svid_cache.proofs.kept.first_end.Given as goal

abbrev pub invariant-loop-svid : goal.invariant-loop-svid
invariant-loop-svid l = record {
  ends : NoneEndsBefore l.first (take l.svid-index l.svids);
  other : l.first ≤ l.other;
  exact : IsLatest l.other (λ s. NoneEndsBefore s (take l.svid-index l.svids)) l.first;
}
