use Rattle.std.proofs.Common.{◌≡◌, not, map, filter, take}
use Rattle.wl_entry.specs.Keys.{ask_key}
use Rattle.svid_cache.specs.Caches.{is_listed}
use Rattle.wl_store.specs.Stores.{asks_of}
use Rattle.wl_manager.proofs.dropping.changed_ids.Given as goal

abbrev pub invariant-loop-ask : goal.invariant-loop-ask
invariant-loop-ask g l = l.ids.items ≡ map ask_key (filter (λ a. not (is_listed (asks_of l.after.store.entries) a)) (take l.ask-index l.asks))
