use Rattle.wl_worker.proofs.Steps.{turned_ok, turned_none}
use Rattle.wl_worker.proofs.stepping.take_turn.Goals as goal

pub returns-in-Ok-clause-tells : goal.returns-in-Ok-clause-tells
returns-in-Ok-clause-tells g c = turned_ok _ _ _ _ _ c.in-Ok.ensures.turns

pub returns-in-Err-clause-tells : goal.returns-in-Err-clause-tells
returns-in-Err-clause-tells g c = turned_none _ _ _ c.in-Err.field-0 (record {}) _ _ c.in-Err.ensures.turns
