use Rattle.wl_worker.proofs.SeatParts.{ends_finished, ends_memory, ended_from_none}
use Rattle.wl_worker.proofs.LinkParts.{tends_none, tends_all, keeps_from_none}
use Rattle.wl_worker.proofs.seating.serve_links.Goals as goal

pub returns-in-Err-clause-goes : goal.returns-in-Err-clause-goes
returns-in-Err-clause-goes g c = ends_memory _

pub returns-in-Err-clause-tends : goal.returns-in-Err-clause-tends
returns-in-Err-clause-tends g c = λ t. tends_none _ _ _

pub returns-clause-goes : goal.returns-clause-goes
returns-clause-goes g c = ends_finished _ _ _ _ _ _ _ (ended_from_none _ _ _ _ _ _ c.in-Ok.ensures c.serve_all-end.ensures.goes) (c.finish_all.ensures.goes c.serve_all-end.new.pass)

pub returns-clause-tends : goal.returns-clause-tends
returns-clause-tends g c =
    let served = c.serve_all-end.ensures.goes.goes in
    let finished = c.finish_all.ensures.goes c.serve_all-end.new.pass in
    tends_all _ _ _ _ _ _ _ (keeps_from_none _ _ _ _ _ _ _ _ c.in-Ok.ensures c.serve_all-end.ensures.tends) (c.finish_all.ensures.tends c.serve_all-end.new.pass)
    served.room finished.room
