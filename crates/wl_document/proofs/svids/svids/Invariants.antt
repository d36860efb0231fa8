use Rattle.std.proofs.Common.{[]}
use Rattle.json_members.proofs.Walks.{Reached}
use Rattle.wl_document.specs.Walks.{svid_beside, put_svid}
use Rattle.wl_document.proofs.svids.svids.Given as goal

abbrev pub invariant-loop-value : goal.invariant-loop-value
invariant-loop-value l = Reached svid_beside put_svid [] l.values l.index l.value-index l.done.entries
