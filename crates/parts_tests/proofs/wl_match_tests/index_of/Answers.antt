use Rattle.std.specs.List.Sorted.{IsStrictlySortedBy}
use Rattle.parts_tests.proofs.wl_match_tests.index_of.Goals as goal

pub build-requires-clause-rises : goal.build-requires-clause-rises
unfolding IsStrictlySortedBy
build-requires-clause-rises c = (tt, tt)
