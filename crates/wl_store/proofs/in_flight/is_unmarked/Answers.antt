use Rattle.std.proofs.Common.{◌==◌, ◌&&◌, sym, ◌∙◌, ap}
use Rattle.wl_entry.specs.Same.{same_ask}
use Rattle.wl_store.specs.Stores.{has_ticket}
use Rattle.wl_store.proofs.UnmarkedFlights.{at_marked, at_unmarked, any_past}
use Rattle.wl_store.proofs.in_flight.is_unmarked.Goals as goal
use Rattle.wl_store.proofs.in_flight.is_unmarked.Goals.{else-not-marks-i-via-then-not-marks-i+else-is_of, else-not-marks-i-via-else-not-marks-i}

pub loop-i-preserved : goal.loop-i-preserved
loop-i-preserved c =
    let n = c.args.ticket.now.number in
    let a = c.args.ticket.now.ask in
    elim c.else-not-marks-i.branch [
      | else-not-marks-i-via-then-not-marks-i+else-is_of w ↦
          sym (ap (has_ticket n a) (at_unmarked c.args.all.now c.args.marks.now c.loop-i.i _ w.index-all-i.result c.loop-i-test.true c.requires w.if-not-marks-i.true w.index-all-i.is)
          ∙ any_past (λ f. (f.number == n) && same_ask f.ask a) w.index-all-i.result _ (sym w.is_of.ensures ∙ w.if-is_of.false)) ∙ c.loop-i.invariant
      | else-not-marks-i-via-else-not-marks-i w ↦
          sym (ap (has_ticket n a) (at_marked c.args.all.now c.args.marks.now c.loop-i.i _ c.loop-i-test.true c.requires w.if-not-marks-i.false)) ∙ c.loop-i.invariant
    ]
