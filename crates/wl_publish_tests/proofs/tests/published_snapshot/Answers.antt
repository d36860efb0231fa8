use Rattle.std.specs.List.Sorted.{IsStrictlySortedBy}
use Rattle.wl_publish_tests.proofs.tests.published_snapshot.Goals as goal

pub build-requires-clause-rises : goal.build-requires-clause-rises
unfolding IsStrictlySortedBy
build-requires-clause-rises c = tt
