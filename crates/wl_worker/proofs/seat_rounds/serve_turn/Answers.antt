use Rattle.wl_worker.proofs.SeatParts.{goes_waited, goes_then}
use Rattle.wl_worker.proofs.LinkParts.{keeps_waited, keeps_unwaited, keeps_then}
use Rattle.wl_worker.proofs.seat_rounds.serve_turn.Goals as goal

pub returns-in-Err-clause-goes : goal.returns-in-Err-clause-goes
returns-in-Err-clause-goes g c = goes_waited _ _ _ _ _ _ c.in-Err.ensures.later

pub returns-in-Err-clause-tends : goal.returns-in-Err-clause-tends
returns-in-Err-clause-tends g c = keeps_unwaited _ _ _ _ _ _ _ _ c.in-Err.fault

pub returns-clause-goes : goal.returns-clause-goes
returns-clause-goes g c = rw c.let_go.ensures (goes_then _ _ _ _ _ _ _ _ (goes_waited _ _ _ _ _ _ c.in_default.ensures.later) c.serve_listed.ensures.goes)

pub returns-clause-tends : goal.returns-clause-tends
returns-clause-tends g c = rw c.let_go.ensures (keeps_then _ _ _ _ _ _ _ _ _ (keeps_waited _ _ _ _ _ _ _ _) c.serve_listed.ensures.tends)
