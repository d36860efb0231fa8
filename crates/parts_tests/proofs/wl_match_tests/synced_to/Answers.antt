use Rattle.std.specs.List.Sorted.{IsStrictlySortedBy}
use Rattle.parts_tests.proofs.wl_match_tests.synced_to.Goals as goal

pub synced-requires-clause-rises : goal.synced-requires-clause-rises
unfolding IsStrictlySortedBy
synced-requires-clause-rises c = (tt, tt)
