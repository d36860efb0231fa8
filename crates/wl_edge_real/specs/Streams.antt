-- What came of a stream that is opened late, and what went into it (own rules): nothing before it is there.
use Rattle.std.specs.Prelude.{ℕ, List, [], Option, Some, None}
use Rattle.wl_edge_real.specs.declared.told_stream.ToldStream.{ToldStream}

abbrev pub came_of : {S : Type 0} → Option (ToldStream S) → List ℕ
came_of None = []
came_of (Some stream) = stream.got.list

abbrev pub went_into : {S : Type 0} → Option (ToldStream S) → List ℕ
went_into None = []
went_into (Some stream) = stream.put.list
