use Rattle.wl_edge.proofs.RecordedCalls.{told_call}
use Rattle.wl_edge.proofs.memory_attestor.MemoryAttestorAttestor.attest.Goals as goal

pub returns-clause-told : goal.returns-clause-told
returns-clause-told c = told_call _ _ _ _ _ _ _ _ _ c.in_ok-answer.ensures c.in_ok-call.ensures c.in_ok-push.ensures.ok c.counted.ensures
