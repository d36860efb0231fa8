use Rattle.wl_worker.proofs.Determinacy.{determined_by}
use Rattle.wl_worker.proofs.laws.rounds_are_determined.Goals as goal

pub returns : goal.returns
returns c = determined_by
