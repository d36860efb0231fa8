use Rattle.std.proofs.Common.{length}
use Rattle.wl_worker.proofs.queue.abandon_due.Given as goal

abbrev pub decreases-left : goal.decreases-left
decreases-left l = length l.left.items
