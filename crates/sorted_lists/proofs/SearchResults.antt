-- Each item is found by its key: the laws are those of `list_laws`.
pub use Rattle.list_laws.proofs.Order.{level_self}
pub use Rattle.list_laws.proofs.Keys.{found_all, found_has}
