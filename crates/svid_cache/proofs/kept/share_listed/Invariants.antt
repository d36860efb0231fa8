use Rattle.std.proofs.Common.{◌≡◌, filter, take}
use Rattle.svid_cache.specs.Caches.{is_listed}
use Rattle.svid_cache.proofs.kept.share_listed.Given as goal

abbrev pub invariant-loop-svid : goal.invariant-loop-svid
invariant-loop-svid l = l.shared.items ≡ filter (λ s. is_listed l.asks s.ask) (take l.svid-index l.svids)
