use Rattle.wl_worker.proofs.SeenPublications.{prefix_same}
use Rattle.wl_worker.proofs.SeatParts.{goes_then, goes_over, stays_silent}
use Rattle.wl_worker.proofs.LinkParts.{keeps_then, keeps_starved_served}
use Rattle.wl_worker.proofs.SeatPlaces.{goes_taken, keeps_taken, open_taken, goes_absent, keeps_absent}
use Rattle.wl_worker.proofs.seat_rounds.starve.Goals as goal

pub returns-in-None-clause-goes : goal.returns-in-None-clause-goes
returns-in-None-clause-goes g c = λ p. goes_absent _ _ _ _ c.in-None.ensures.absent

pub returns-in-None-clause-tends : goal.returns-in-None-clause-tends
returns-in-None-clause-tends g c = λ p. keeps_absent _ _ _ _ _ _ c.in-None.ensures.absent

pub release-requires-after_bounds : goal.release-requires-after_bounds
release-requires-after_bounds g c κs within = open_taken _ _ _ _ _ _ c.in-Some.ensures.value c.in-Some.ensures.updates c.requires

pub returns-clause-goes : goal.returns-clause-goes
returns-clause-goes g c = λ p.
    goes_then _ _ _ _ _ _ _ _ (goes_taken _ _ _ _ _ _ c.in-Some.ensures.value c.in-Some.ensures.updates)
    (goes_over _ _ _ _ (prefix_same _) _ _ _ _ _ _ _ _ c.release.ensures.listens c.release.ensures.waits
    (stays_silent _ _ (c.args.seat.now.alike c.args.seat.now.listener c.release.new.listener)) c.release.ensures.sockets c.release.ensures.finishes)

pub returns-clause-tends : goal.returns-clause-tends
returns-clause-tends g c = λ p.
    keeps_then _ _ _ _ _ _ _ _ _ (keeps_taken _ _ _ _ _ _ _ _ c.in-Some.ensures.value c.in-Some.ensures.updates)
    (keeps_starved_served _ _ _ _ _ _ _ _ _ _ _ _ c.starved_after-seat.ensures c.release.ensures.sockets c.release.ensures.finishes)
