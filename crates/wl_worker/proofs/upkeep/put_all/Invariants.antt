use Rattle.std.proofs.Common.{length}
use Rattle.wl_worker.proofs.upkeep.put_all.Given as goal

abbrev pub decreases-left : goal.decreases-left
decreases-left g l = length l.left.items
