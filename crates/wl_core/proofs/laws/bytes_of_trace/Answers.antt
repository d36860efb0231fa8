use Rattle.wl_core.proofs.SessionTraces.{bytes_of_trace}
use Rattle.wl_core.proofs.laws.bytes_of_trace.Goals as goal

pub returns : goal.returns
returns c = bytes_of_trace
