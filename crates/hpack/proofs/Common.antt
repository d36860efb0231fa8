-- The names that most proofs here cite, passed on from one place. Declares nothing.
pub use Rattle.hpack.specs.Grammar.{IsInteger, IsName, Represents, indexed_name, new_name}
unfoldable pub use Rattle.hpack.specs.Huffman.{bits}
pub use Rattle.hpack.specs.Outcomes.{Refuses}
pub use Rattle.hpack.specs.Reading.{block_of}
unfoldable pub use Rattle.hpack.specs.Reading.{integer_at}
pub use Rattle.hpack.specs.Tables.{Table, no_field, size_of}
unfoldable pub use Rattle.hpack.specs.Tables.{entry_at, list_size, static_table}
pub use Rattle.hpack.specs.Tree.{Branch, End, Node, Symbol}
unfoldable pub use Rattle.hpack.specs.Tree.{branch_at, walk}
pub use Rattle.hpack.specs.declared.fault.HpackFault.{HpackFault}
pub use Rattle.list_laws.proofs.Results.{bind_ok}
pub use Rattle.list_laws.specs.Results.{◌>>=◌}
pub use Rattle.wl_octets.specs.declared.header.Header.{Header}
