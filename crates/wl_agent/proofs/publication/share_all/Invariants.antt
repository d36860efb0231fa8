use Rattle.std.proofs.Common.{◌≡◌}
use Rattle.wl_agent.proofs.publication.share_all.Given as goal

abbrev pub invariant-loop-item : goal.invariant-loop-item
invariant-loop-item g l = l.shared ≡ l.yielded
