use Rattle.wl_worker.proofs.SeatParts.{went_none, went_then, went_on, on_step_of, ends_over, ends_rest}
use Rattle.wl_worker.proofs.LinkParts.{keeps_still, keeps_then, keeps_on, keeps_closed}
use Rattle.wl_worker.proofs.seating.serve_all.Goals as goal

pub seat-init : goal.seat-init
seat-init g c = record { goes = went_none _ _; tends = keeps_still _ _ _ _ }

pub returns-in-Over-clause-goes : goal.returns-in-Over-clause-goes
returns-in-Over-clause-goes g c = ends_over _ _ _ _ _ _ _ c.seat.invariant.goes c.in-Over.ensures.goes

pub returns-in-Over-clause-tends : goal.returns-in-Over-clause-tends
returns-in-Over-clause-tends g c = keeps_then _ _ _ _ _ _ _ _ _ c.seat.invariant.tends c.in-Over.ensures.tends

pub returns-in-Closed-clause-goes : goal.returns-in-Closed-clause-goes
returns-in-Closed-clause-goes g c = ends_rest _ _ _ _ _ _ _ _ _ c.seat.invariant.goes c.in-Closed.ensures.goes c.serve_rest.ensures.goes

pub returns-in-Closed-clause-tends : goal.returns-in-Closed-clause-tends
returns-in-Closed-clause-tends g c = keeps_then _ _ _ _ _ _ _ _ _ c.seat.invariant.tends (keeps_closed _ _ _ _ _ _ _ _ _ c.in-Closed.ensures.tends c.serve_rest.ensures.tends)

pub seat-preserved : goal.seat-preserved
seat-preserved g c =
    record {
      goes = went_then _ _ _ _ _ _ c.seat.invariant.goes (went_on _ _ _ _ _ (on_step_of _ c.in_default.not-Closed c.in_default.not-Over) c.go_on.ensures.goes);
      tends = keeps_then _ _ _ _ _ _ _ _ _ c.seat.invariant.tends (keeps_on _ _ _ _ _ _ _ (on_step_of _ c.in_default.not-Closed c.in_default.not-Over) c.go_on.ensures.tends);
    }
