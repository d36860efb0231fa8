use Rattle.std.proofs.Common.{◌≡◌, ◌+◌, ◌∙◌, ap}
use Rattle.svid_cache.specs.Caches.{Cached}
use Rattle.svid_cache.specs.Timetables.{cached_by}
use Rattle.wl_store.specs.Stores.{asks_of}
use Rattle.wl_store.proofs.Publications.{publishable}
use Rattle.wl_store.proofs.store.Store.publish_parts.Goals as goal

pub publication-requires : goal.publication-requires
publication-requires g c =
    let asks : c.into_parts-table.result.0.asks ≡ asks_of c.args.stock.entries = ap (λ (k : Cached). k.asks) c.into_parts-table.ensures.value ∙ c.requires.cached in
    publishable (c.old.inside.number + 1) c.in_ok-domain.domain c.args.stock.entries c.args.stock.bundles (cached_by c.into_parts-table.result.0 c.into_parts-table.result.1) c.requires.stock c.into_parts-table.ensures.about.cached asks
