use Rattle.std.proofs.Common.{◌==◌, sym, ◌∙◌, ap}
use Rattle.std.specs.Prelude.{find}
use Rattle.wl_store.proofs.UnmarkedFlights.{at_marked, at_unmarked, find_past, other_number}
use Rattle.wl_store.proofs.in_flight.find_unmarked.Goals as goal
use Rattle.wl_store.proofs.in_flight.find_unmarked.Goals.{else-not-marks-i-via-then-not-marks-i+else-all-i, else-not-marks-i-via-else-not-marks-i}

pub loop-i-preserved : goal.loop-i-preserved
loop-i-preserved c =
    elim c.else-not-marks-i.branch [
      | else-not-marks-i-via-then-not-marks-i+else-all-i w ↦
          sym (ap (find (λ f. f.number == c.args.number)) (at_unmarked c.args.all.now c.args.marks.now c.loop-i.i _ w.index-all-i.result c.loop-i-test.true c.requires w.if-not-marks-i.true w.index-all-i.is)
          ∙ find_past (λ f. f.number == c.args.number) w.index-all-i.result _ (other_number w.index-all-i.result _ c.args.number w.index-all-i.is w.if-all-i.false)) ∙ c.loop-i.invariant
      | else-not-marks-i-via-else-not-marks-i w ↦
          sym (ap (find (λ f. f.number == c.args.number)) (at_marked c.args.all.now c.args.marks.now c.loop-i.i _ c.loop-i-test.true c.requires w.if-not-marks-i.false)) ∙ c.loop-i.invariant
    ]
