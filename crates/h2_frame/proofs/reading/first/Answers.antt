use Rattle.std.proofs.Common.{arith, sym}
use Rattle.h2_frame.proofs.Fronts.{first_whole}
use Rattle.h2_frame.proofs.reading.first.Goals as goal

pub returns : goal.returns
returns c =
    let says = rw c.split_at-2.ensures.front at c.in_ok-body.ensures in
    (first_whole c.args.bytes.now c.split_at.result.1.now c.read-head.result c.in_ok-body.body c.if-bytes-lt-HEAD_LEN.false c.read-head.ensures c.split_at.ensures.back c.if-head-gt-MAX_FRAME_SIZE.false (sym c.if-has_wrong_length.ensures) c.if-after-length.false says, omega arith, omega arith)
