-- The names that most proofs here cite, passed on from one place. Declares nothing.
pub use Rattle.list_laws.proofs.Equality.{bytes_are, same_bytes}
unfoldable pub use Rattle.list_laws.specs.Keys.{item_at}
unfoldable pub use Rattle.wl_entry.specs.Entitled.{is_entitled}
pub use Rattle.wl_entry.specs.Keys.{entry_key}
pub use Rattle.wl_entry.specs.declared.bundles.Bundle.{Bundle}
pub use Rattle.wl_entry.specs.declared.entries.Entry.{Entry}
unfoldable pub use Rattle.wl_selector.specs.Selectors.{has_text}
pub use Rattle.wl_snapshot.specs.Snapshots.{Publication}
