use Rattle.wl_worker.proofs.SeatParts.{goes_still, goes_then, fit_on}
use Rattle.wl_worker.proofs.LinkParts.{keeps_still, keeps_then}
use Rattle.wl_worker.proofs.seat_rounds.serve_listed.Goals as goal

pub listed-init : goal.listed-init
listed-init g c = record { goes = goes_still _ _; tends = keeps_still _ _ _ _ }

pub serve_number-requires-after_bounds : goal.serve_number-requires-after_bounds
serve_number-requires-after_bounds g c κs within = fit_on _ _ _ _ _ c.listed.invariant.goes c.requires

pub keep_budget-requires-after_bounds : goal.keep_budget-requires-after_bounds
keep_budget-requires-after_bounds g c κs within = (fit_on _ _ _ _ _ c.serve_number.ensures.goes (fit_on _ _ _ _ _ c.listed.invariant.goes c.requires)).is_open

pub listed-preserved : goal.listed-preserved
listed-preserved g c =
    record {
      goes = goes_then _ _ _ _ _ _ _ _ (goes_then _ _ _ _ _ _ _ _ c.listed.invariant.goes c.serve_number.ensures.goes) (c.keep_budget.ensures.goes c.serve_number.new.pass);
      tends = keeps_then _ _ _ _ _ _ _ _ _ (keeps_then _ _ _ _ _ _ _ _ _ c.listed.invariant.tends c.serve_number.ensures.tends) (c.keep_budget.ensures.tends c.serve_number.new.pass);
    }

pub returns-clause-goes : goal.returns-clause-goes
returns-clause-goes g c = c.listed.invariant.goes

pub returns-clause-tends : goal.returns-clause-tends
returns-clause-tends g c = c.listed.invariant.tends
