use Rattle.std.specs.List.Sorted.{IsStrictlySortedBy}
use Rattle.wl_match.proofs.index.Index.build.Goals as goal

pub index_with-requires-clause-keys : goal.index_with-requires-clause-keys
unfolding IsStrictlySortedBy
index_with-requires-clause-keys c = tt
