use Rattle.std.proofs.Common.{sym}
use Rattle.wl_worker.proofs.SeatParts.{stays_silent, round_sees, goes_round, goes_over, goes_then}
use Rattle.wl_worker.proofs.AllLinks.{is_on}
use Rattle.wl_worker.proofs.LinkParts.{keeps_then, keeps_round, keeps_over}
use Rattle.wl_worker.proofs.SeatPlaces.{goes_put, keeps_put}
use Rattle.wl_worker.proofs.seat_rounds.serve_one.Goals as goal

pub returns-in-Ended-clause-goes : goal.returns-in-Ended-clause-goes
returns-in-Ended-clause-goes g c =
    goes_over _ _ _ _ (round_sees c.in-Ended.ensures.tells) _ _ _ _ _ _ _ _ c.end_link.ensures.listens c.end_link.ensures.waits
    (stays_silent _ _ (c.args.seat.now.alike c.args.seat.now.listener c.end_link.new.listener)) c.end_link.ensures.sockets c.end_link.ensures.finishes

pub returns-in-Ended-clause-tends : goal.returns-in-Ended-clause-tends
returns-in-Ended-clause-tends g c =
    keeps_over _ _ _ _ _ _ _ _ _ _ _ _ _ _ _ _ _ _ (λ t. t c.args.connection.link) _ c.in-Ended.ensures.origin _ _ _ _ _ _ _ c.in-Ended.ensures.tells c.starved_after-seat.ensures c.in-Ended.ensures.read_fault c.in-Ended.ensures.write_fault c.end_link.ensures.sockets
    c.end_link.ensures.finishes

-- what became of the calls is handed on, and the connection stays as it is
pub returns-clause-goes : goal.returns-clause-goes
returns-clause-goes g c =
    let tells = rw (sym c.note_calls.ensures) at c.round-end.ensures.tells in
    let seen = rw (sym c.note_calls.ensures) at c.round-end.ensures.seen in
    goes_then _ _ _ _ _ _ _ _ (goes_round _ _ _ _ (round_sees tells) _ _ _ _ _ seen)
    (goes_put _ _ _ _ _ _ c.insert_reserved.ensures.was_vacant c.insert_reserved.ensures.updates)

pub returns-clause-tends : goal.returns-clause-tends
returns-clause-tends g c =
    let tells = rw (sym c.note_calls.ensures) at c.round-end.ensures.tells in
    keeps_then _ _ _ _ _ _ _ _ _
    (keeps_round _ _ _ _ _ _ _ _ _ _ _ _ _ _ _ _ _ _ (λ t. t c.args.connection.link) _ c.round-end.ensures.origin _ _ _ _ tells (is_on _ c.in_default.not-Ended))
    (keeps_put _ _ _ _ _ _ _ _ c.insert_reserved.ensures.was_vacant c.insert_reserved.ensures.updates)
