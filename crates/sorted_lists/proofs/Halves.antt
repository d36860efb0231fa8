-- A list by ascending key in two parts: the laws are those of `list_laws`.
pub use Rattle.list_laws.proofs.Order.{order, not_same, turned}
pub use Rattle.list_laws.proofs.Keys.{skip_below, Parted, parted, all_below, all_level, go_there, parts_of}
