-- Lists whose items have keys: the definitions are those of `list_laws`.
unfoldable pub use Rattle.list_laws.specs.Keys.{item_at, place_at}
