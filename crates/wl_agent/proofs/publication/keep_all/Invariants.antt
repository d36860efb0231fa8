use Rattle.std.proofs.Common.{◌≡◌}
use Rattle.wl_agent.specs.Kept.{kept_in}
use Rattle.wl_agent.proofs.publication.keep_all.Given as goal

abbrev pub invariant-loop-one : goal.invariant-loop-one
invariant-loop-one l = l.kept ≡ kept_in l.entries l.yielded
