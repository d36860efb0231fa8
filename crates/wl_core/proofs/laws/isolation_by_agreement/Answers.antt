use Rattle.wl_core.proofs.SessionTraces.{equal_bytes}
use Rattle.wl_core.proofs.laws.isolation_by_agreement.Goals as goal

pub returns : goal.returns
returns c = equal_bytes
