use Rattle.wl_worker.proofs.SeatParts.{goes_then, fit_on}
use Rattle.wl_worker.proofs.LinkParts.{keeps_then}
use Rattle.wl_worker.proofs.SeatPlaces.{goes_taken, keeps_taken, goes_absent, keeps_absent}
use Rattle.wl_worker.proofs.seat_rounds.serve_number.Goals as goal

pub returns-in-None-clause-goes : goal.returns-in-None-clause-goes
returns-in-None-clause-goes g c = goes_absent _ _ _ _ c.in-None.ensures.absent

pub returns-in-None-clause-tends : goal.returns-in-None-clause-tends
returns-in-None-clause-tends g c = keeps_absent _ _ _ _ _ _ c.in-None.ensures.absent

pub returns-clause-goes : goal.returns-clause-goes
returns-clause-goes g c = goes_then _ _ _ _ _ _ _ _ (goes_taken _ _ _ _ _ _ c.in-Some.ensures.value c.in-Some.ensures.updates) c.serve_one.ensures.goes

pub returns-clause-tends : goal.returns-clause-tends
returns-clause-tends g c = keeps_then _ _ _ _ _ _ _ _ _ (keeps_taken _ _ _ _ _ _ _ _ c.in-Some.ensures.value c.in-Some.ensures.updates) c.serve_one.ensures.tends

pub serve_one-requires-clause-fit : goal.serve_one-requires-clause-fit
serve_one-requires-clause-fit g c κs within = fit_on _ _ _ _ _ (goes_taken _ _ _ _ _ _ c.in-Some.ensures.value c.in-Some.ensures.updates) c.requires
