-- The names that most proofs here cite, passed on from one place. Declares nothing.
pub use Rattle.list_laws.specs.Lists.{Rises}
pub use Rattle.svid_cache.specs.Caches.{Cached, is_listed}
pub use Rattle.wl_entry.specs.Asks.{ask_of}
pub use Rattle.wl_entry.specs.Keys.{entry_key}
pub use Rattle.wl_entry.specs.Same.{same_ask, same_svid}
pub use Rattle.wl_entry.specs.declared.asks.Ask.{Ask}
pub use Rattle.wl_entry.specs.declared.bundles.Bundle.{Bundle}
pub use Rattle.wl_entry.specs.declared.entries.Entry.{Entry}
pub use Rattle.wl_entry.specs.declared.signing.Svid.{Svid}
pub use Rattle.wl_snapshot.specs.Snapshots.{Publication}
pub use Rattle.wl_store.specs.Stores.{asks_of}
pub use Rattle.wl_store.specs.declared.tickets.Flight.{Flight}
