-- The names that most proofs here cite, passed on from one place. Declares nothing.
pub use Rattle.list_laws.proofs.Elements.{all_append, all_filter, all_such}
pub use Rattle.list_laws.proofs.Order.{level_self}
pub use Rattle.list_laws.specs.Lists.{Rises}
pub use Rattle.sorted_blocks.proofs.BlockOfKey.{join_more}
pub use Rattle.sorted_blocks.specs.Blocks.{join}
pub use Rattle.svid_cache.specs.Caches.{Cached, is_above, is_below, lasts}
unfoldable pub use Rattle.svid_cache.specs.Caches.{kept_for, with_svid}
pub use Rattle.wl_entry.specs.Keys.{ask_key, svid_key}
pub use Rattle.wl_entry.specs.Same.{same_ask}
pub use Rattle.wl_entry.specs.declared.asks.Ask.{Ask}
pub use Rattle.wl_entry.specs.declared.signing.Svid.{Svid}
