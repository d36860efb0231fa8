use Rattle.std.proofs.Common.{arith, ◌∙◌}
use Rattle.h2_frame.proofs.Openings.{opened_next}
use Rattle.h2_frame.proofs.opening.common.Goals as goal

pub loop-count-preserved : goal.loop-count-preserved
loop-count-preserved c = record {
  left = omega arith;
  piece = omega arith;
  same = c.loop-count.invariant.same ∙ opened_next c.args.left.now c.args.piece.now c.loop-count.count c.loop-count-test.true c.if-count-piece.true c.if-left-count.true;
}
