use Rattle.std.proofs.Common.{[]}
use Rattle.json_members.proofs.Walks.{Reached}
use Rattle.wl_document.specs.Walks.{bundle_beside, put_bundle}
use Rattle.wl_document.proofs.bundles.bundles.Given as goal

abbrev pub invariant-loop-value : goal.invariant-loop-value
invariant-loop-value l = Reached bundle_beside put_bundle [] l.values l.index l.value-index l.done.entries
