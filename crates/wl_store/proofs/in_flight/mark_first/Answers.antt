use Rattle.std.proofs.Common.{◌+◌, ◌++◌, true, take, drop, sym, ◌∙◌, ap}
use Rattle.std.specs.Prelude.{slice_set, slice_index_or, false, [], ◌∷◌}
use Rattle.std.proofs.lemmas.List.{append_assoc}
use Rattle.wl_store.specs.Flights.{unmarked}
use Rattle.wl_store.specs.Stores.{without_flight}
use Rattle.wl_store.proofs.UnmarkedFlights.{at_marked, at_unmarked, so_far_marked, so_far_unmarked, unmarked_set, left_out, left_past, its_number, other_number}
use Rattle.wl_store.proofs.in_flight.mark_first.Goals as goal
use Rattle.wl_store.proofs.in_flight.mark_first.Goals.{else-not-marks-i-via-then-not-marks-i+else-all-i, else-not-marks-i-via-else-not-marks-i}

pub returns-then-all-i-clause-left : goal.returns-then-all-i-clause-left
returns-then-all-i-clause-left c =
    let all = c.args.all.now in
    let marks = c.args.marks.now in
    let i = c.loop-i.i in
    let waits = ap (λ l. slice_index_or l i false) (sym c.loop-i.invariant.same) ∙ c.if-not-marks-i.true in
    let rest = ap (without_flight c.args.number) (at_unmarked all marks i false c.index-all-i.result c.loop-i-test.true c.requires waits c.index-all-i.is) ∙ left_out c.args.number c.index-all-i.result (unmarked (drop (i + 1) all) (drop (i + 1) marks)) (its_number c.index-all-i.result _ c.args.number c.index-all-i.is c.if-all-i.true) in
    ap (λ l. unmarked all (slice_set l i true)) c.loop-i.invariant.same
    ∙ (unmarked_set all marks i c.loop-i-test.true c.requires ∙ (ap (λ l. unmarked (take i all) (take i marks) ++ l) (sym rest) ∙ c.loop-i.invariant.left))

pub loop-i-preserved : goal.loop-i-preserved
loop-i-preserved c =
    let all = c.args.all.now in
    let marks = c.args.marks.now in
    let i = c.loop-i.i in
    let n = c.args.number in
    let so_far = unmarked (take i all) (take i marks) in
    let more = unmarked (drop (i + 1) all) (drop (i + 1) marks) in
    record {
      same = c.loop-i.invariant.same;
      left = elim c.else-not-marks-i.branch [
        | else-not-marks-i-via-then-not-marks-i+else-all-i w ↦
            let x = w.index-all-i.result in
            let waits = ap (λ l. slice_index_or l i false) (sym c.loop-i.invariant.same) ∙ w.if-not-marks-i.true in
            ap (λ l. l ++ without_flight n more) (sym (so_far_unmarked all marks i false x c.loop-i-test.true c.requires waits w.index-all-i.is))
            ∙ (append_assoc so_far (x ∷ []) (without_flight n more)
            ∙ (ap (λ l. so_far ++ l) (sym (ap (without_flight n) (at_unmarked all marks i false x c.loop-i-test.true c.requires waits w.index-all-i.is) ∙ left_past n x more (other_number x _ n w.index-all-i.is w.if-all-i.false))) ∙ c.loop-i.invariant.left))
        | else-not-marks-i-via-else-not-marks-i w ↦
            let back = ap (λ l. slice_index_or l i false) (sym c.loop-i.invariant.same) ∙ w.if-not-marks-i.false in
            ap (λ l. l ++ without_flight n more) (sym (so_far_marked all marks i false c.loop-i-test.true c.requires back))
            ∙ (ap (λ l. so_far ++ without_flight n l) (sym (at_marked all marks i false c.loop-i-test.true c.requires back)) ∙ c.loop-i.invariant.left)
      ];
    }
