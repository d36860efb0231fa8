use Rattle.wl_edge_real.proofs.Prefixes.{begins_itself}
use Rattle.wl_edge_real.proofs.watched.append.Goals as goal

pub loop-number-init : goal.loop-number-init
loop-number-init c = begins_itself _
