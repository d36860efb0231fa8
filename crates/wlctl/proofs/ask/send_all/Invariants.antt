use Rattle.std.proofs.Common.{length}
use Rattle.wlctl.proofs.ask.send_all.Given as goal

abbrev pub decreases-sends : goal.decreases-sends
decreases-sends g l = length l.rest
