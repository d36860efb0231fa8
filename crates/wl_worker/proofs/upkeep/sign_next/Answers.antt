use Rattle.wl_worker.proofs.SignerAsks.{none_asked}
use Rattle.wl_worker.proofs.upkeep.sign_next.Goals as goal

pub returns-in-None-clause-told : goal.returns-in-None-clause-told
returns-in-None-clause-told g c = none_asked _
