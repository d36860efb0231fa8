use Rattle.wl_worker.proofs.SeatParts.{fit_on, on_step_of, went_on, turned_on, on_step, fault_step, where_failed}
use Rattle.wl_worker.proofs.LinkParts.{keeps_then, keeps_on, keeps_end}
use Rattle.wl_worker.proofs.seating.go_on.Goals as goal

pub returns-in-Closed-clause-goes : goal.returns-in-Closed-clause-goes
returns-in-Closed-clause-goes g c = c.in-Closed.ensures.goes c.args.pass.now

pub returns-in-Closed-clause-tends : goal.returns-in-Closed-clause-tends
returns-in-Closed-clause-tends g c = c.in-Closed.ensures.tends c.args.pass.now

pub returns-in-Over-clause-goes : goal.returns-in-Over-clause-goes
returns-in-Over-clause-goes g c = c.in-Over.ensures.goes c.args.pass.now

pub returns-in-Over-clause-tends : goal.returns-in-Over-clause-tends
returns-in-Over-clause-tends g c = c.in-Over.ensures.tends c.args.pass.now

pub returns-in-Ok-clause-goes : goal.returns-in-Ok-clause-goes
returns-in-Ok-clause-goes g c = on_step _ _ _ _ (turned_on _ _ _ _ _ _ (went_on _ _ _ _ _ (on_step_of _ c.in_default.not-Closed c.in_default.not-Over) (c.admit_all.ensures.goes c.args.pass.now)) c.in-Ok.ensures.goes)

pub returns-in-Ok-clause-tends : goal.returns-in-Ok-clause-tends
returns-in-Ok-clause-tends g c = keeps_then _ _ _ _ _ _ _ _ _ (keeps_on _ _ _ _ _ _ _ (on_step_of _ c.in_default.not-Closed c.in_default.not-Over) (c.admit_all.ensures.tends c.args.pass.now)) c.in-Ok.ensures.tends

pub serve_turn-requires-after_bounds : goal.serve_turn-requires-after_bounds
serve_turn-requires-after_bounds g c κs within = fit_on _ _ _ _ _ (c.admit_all.ensures.goes c.args.pass.now).goes c.requires

pub returns-in-Err-clause-goes : goal.returns-in-Err-clause-goes
returns-in-Err-clause-goes g c = fault_step _ _ _ _ _ _ _ _ c.end_of.ensures (went_on _ _ _ _ _ (on_step_of _ c.in_default.not-Closed c.in_default.not-Over) (c.admit_all.ensures.goes c.args.pass.now)) c.in-Err.ensures.goes (where_failed _ c.in-Err.ensures.failed)

pub returns-in-Err-clause-tends : goal.returns-in-Err-clause-tends
returns-in-Err-clause-tends g c = keeps_then _ _ _ _ _ _ _ _ _ (keeps_on _ _ _ _ _ _ _ (on_step_of _ c.in_default.not-Closed c.in_default.not-Over) (c.admit_all.ensures.tends c.args.pass.now)) (keeps_end _ _ _ _ _ _ _ _ c.end_of.ensures c.in-Err.ensures.tends)
