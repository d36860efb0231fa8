use Rattle.std.proofs.Common.{subst}
use Rattle.wl_document.specs.Checks.{Gives}
use Rattle.wl_document.proofs.Plain.{state_same}
use Rattle.wl_document.proofs.read.state.Goals as goal

pub returns : goal.returns
returns c = subst (Gives (λ s. s) c.state_inner.result) (state_same _ _) c.state_inner.ensures
