use Rattle.std.proofs.Common.{arith}
use Rattle.wl_config.proofs.Ranges.{count_first}
use Rattle.wl_config.proofs.uids.count_of.Goals as goal

pub loop-range-preserved : goal.loop-range-preserved
loop-range-preserved c = record {
  so_far = grind (arith, count_first c.args.ranges.now c.loop-range.range-index, c.loop-range.invariant.so_far);
  few = grind (arith, c.loop-range.invariant.few);
}
