use Rattle.wl_worker.proofs.SeatParts.{goes_still, goes_then}
use Rattle.wl_worker.proofs.LinkParts.{keeps_still, keeps_then, keeps_ended}
use Rattle.wl_worker.proofs.SeatPlaces.{none_counted}
use Rattle.wl_worker.proofs.seating.serve_rest.Goals as goal

pub rest-init : goal.rest-init
rest-init g c = record { goes = goes_still _ _; tends = keeps_still _ _ _ _ }

pub rest-preserved : goal.rest-preserved
rest-preserved g c =
    record {
      goes = goes_then _ _ _ _ _ _ _ _ c.rest.invariant.goes c.in_default.ensures.goes;
      tends = keeps_then _ _ _ _ _ _ _ _ _ c.rest.invariant.tends c.in_default.ensures.tends;
    }

pub returns-then-is_empty-clause-goes : goal.returns-then-is_empty-clause-goes
returns-then-is_empty-clause-goes g c = record { goes = c.rest.invariant.goes; rests = none_counted _ c.rest.places.links _ c.is_empty.ensures c.if-is_empty.true; fits = tt }

pub returns-then-is_empty-clause-tends : goal.returns-then-is_empty-clause-tends
returns-then-is_empty-clause-tends g c = keeps_ended _ _ _ _ _ _ (none_counted _ c.rest.places.links _ c.is_empty.ensures c.if-is_empty.true) c.rest.invariant.tends
