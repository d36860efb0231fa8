use Rattle.std.specs.List.Sorted.{IsStrictlySortedBy}
use Rattle.std.proofs.Common.{rules}
use Rattle.wl_agent_tests.proofs.tests.views.first_alone.Goals as goal

pub view_of-requires : goal.view_of-requires
unfolding IsStrictlySortedBy
view_of-requires c = search rules
