use Rattle.wl_worker.proofs.SignerAsks.{asked_once}
use Rattle.wl_worker.proofs.upkeep.sign_identity.Goals as goal

pub returns-clause-told : goal.returns-clause-told
returns-clause-told g c = asked_once _ _ _ _ _ _ c.sign_once-asked.ensures
