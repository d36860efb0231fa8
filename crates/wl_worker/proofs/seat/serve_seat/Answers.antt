use Rattle.std.proofs.Common.{Some, sym, ap, ◌∙◌}
use Rattle.wl_worker.proofs.Common.{Passing}
use Rattle.wl_worker.proofs.SeatParts.{listen_rose, wait_rose, listened}
use Rattle.wl_worker.proofs.LinkParts.{of_passes}
use Rattle.wl_worker.proofs.seat.serve_seat.Goals as goal

pub returns-clause-place : goal.returns-clause-place
returns-clause-place g c = c.serve_links-end.ensures.goes.goes.room

pub returns-clause-sockets : goal.returns-clause-sockets
returns-clause-sockets g c = c.serve_links-end.ensures.goes.goes.sockets

pub returns-clause-listens : goal.returns-clause-listens
returns-clause-listens g c = c.serve_links-end.ensures.goes.goes.listens

pub returns-clause-waits : goal.returns-clause-waits
returns-clause-waits g c = c.serve_links-end.ensures.goes.goes.waits

pub returns-clause-listen_fault : goal.returns-clause-listen_fault
returns-clause-listen_fault g c = listen_rose _ _ _ c.serve_links-end.ensures.goes.fits

pub returns-clause-wait_fault : goal.returns-clause-wait_fault
returns-clause-wait_fault g c = wait_rose _ _ _ c.serve_links-end.ensures.goes.fits

pub returns-clause-finishes : goal.returns-clause-finishes
returns-clause-finishes g c = listened _ _ _ c.serve_links-end.ensures.goes

pub returns-clause-tends : goal.returns-clause-tends
returns-clause-tends g c = λ t. of_passes _ _ _ _ _ (sym c.take.ensures.value ∙ (c.in-Some.is ∙ ap (λ (p : Passing). Some p) (sym c.new-pass.ensures))) (ap (λ (p : Passing). Some p) c.into_pass.ensures) (c.serve_links-end.ensures.tends t)
