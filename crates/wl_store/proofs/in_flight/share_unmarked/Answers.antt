use Rattle.std.proofs.Common.{◌∙◌}
use Rattle.wl_store.proofs.UnmarkedFlights.{so_far_marked, so_far_unmarked}
use Rattle.wl_store.proofs.in_flight.share_unmarked.Goals as goal
use Rattle.wl_store.proofs.in_flight.share_unmarked.Goals.{then-not-marks-i+in_ok-share+in_ok-push, else-not-marks-i}

pub loop-i-preserved : goal.loop-i-preserved
loop-i-preserved c =
    elim c.if-not-marks-i.branch [
      | then-not-marks-i+in_ok-share+in_ok-push w ↦
          rw w.flights-is (w.in_ok-push.ensures.items ∙ rw (c.loop-i.invariant, w.in_ok-share.ensures) (so_far_unmarked c.args.all.now c.args.marks.now c.loop-i.i _ w.index-all-i.result c.loop-i-test.true c.requires w.if-not-marks-i.true w.index-all-i.is))
      | else-not-marks-i w ↦
          rw w.flights-is (c.loop-i.invariant ∙ so_far_marked c.args.all.now c.args.marks.now c.loop-i.i _ c.loop-i-test.true c.requires w.if-not-marks-i.false)
    ]
