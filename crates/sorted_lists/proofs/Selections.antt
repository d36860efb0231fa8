-- What is chosen from a list by ascending key: the laws are those of `list_laws`.
pub use Rattle.list_laws.specs.Lists.{at_places}
pub use Rattle.list_laws.proofs.Elements.{all_filter, length_filter, all_map, both_all, all_such, all_append, all_places}
pub use Rattle.list_laws.proofs.AscendingKeys.{rises_filter, rises_map, keys_append, rises_places}
