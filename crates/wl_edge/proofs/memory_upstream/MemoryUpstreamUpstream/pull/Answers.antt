use Rattle.wl_edge.proofs.RecordedCalls.{told_pull}
use Rattle.wl_edge.proofs.memory_upstream.MemoryUpstreamUpstream.pull.Goals as goal

pub returns-in_ok-push-in-Some-clause-told : goal.returns-in_ok-push-in-Some-clause-told
returns-in_ok-push-in-Some-clause-told c =
    let short = rw c.in-Some.is at c.in_ok-document.ensures.short in
    told_pull _ _ _ _ _ _ _ c.in-Some.document _ c.in_ok-whole-in-Some.ensures short c.in_ok-given_pull-in-Some.ensures c.in_ok-push-in-Some.ensures.ok c.saturating_add-self.ensures
