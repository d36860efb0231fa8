use Rattle.std.proofs.Common.{arith, refl}
use Rattle.wl_config.proofs.Ranges.{pushed_more}
use Rattle.wl_config.proofs.uids.push_range.Goals as goal

pub loop-uid-preserved : goal.loop-uid-preserved
loop-uid-preserved c = record {
  pushed = rw c.in_ok-push.ensures.items (pushed_more _ _ c.args.range.first c.loop-uid.uid _ (omega arith) refl c.loop-uid.invariant.pushed);
  within = omega arith;
}
