use Rattle.std.proofs.Common.{length}
use Rattle.wl_worker_tests.proofs.tests.upkeep.queue_due.Given as goal

abbrev pub decreases-left : goal.decreases-left
decreases-left g l = length l.left.items
