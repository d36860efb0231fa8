use Rattle.std.proofs.Common.{◌≡◌, not, map, filter, take}
use Rattle.wl_entry.specs.Keys.{svid_key}
use Rattle.svid_cache.specs.Caches.{lasts}
use Rattle.wl_store.proofs.touched.ids_ended.Given as goal

abbrev pub invariant-loop-svid : goal.invariant-loop-svid
invariant-loop-svid l = l.ids.items ≡ map svid_key (filter (λ s. not (lasts l.now s)) (take l.svid-index l.svids))
