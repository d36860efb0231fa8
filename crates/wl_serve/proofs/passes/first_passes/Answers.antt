use Rattle.wl_serve.proofs.Lists.{passes_are}
use Rattle.wl_serve.proofs.passes.first_passes.Goals as goal

pub returns-clause-passes : goal.returns-clause-passes
returns-clause-passes g c = passes_are _ _ c.in_ok-first.ensures.value _ c.start.ensures.passes
