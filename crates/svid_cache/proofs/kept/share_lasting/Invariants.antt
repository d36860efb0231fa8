use Rattle.std.proofs.Common.{◌≡◌, filter, take}
use Rattle.svid_cache.specs.Caches.{lasts}
use Rattle.svid_cache.proofs.kept.share_lasting.Given as goal

abbrev pub invariant-loop-svid : goal.invariant-loop-svid
invariant-loop-svid l = l.shared.items ≡ filter (lasts l.now) (take l.svid-index l.svids)
