use Rattle.std.proofs.Common.{arith}
use Rattle.std.proofs.lemmas.List.{length-map}
use Rattle.serde_json.specs.View.{view}
use Rattle.wl_document.proofs.KeptItems.{own_bundles_within, entries_within, svids_within}
use Rattle.wl_document.proofs.read.state_inner.Goals as goal

pub state_from-requires-clause-bundles : goal.state_from-requires-clause-bundles
state_from-requires-clause-bundles c = own_bundles_within _ _ _ (omega (arith, length-map c.in_ok-head.head.arrays.bundles.now view, c.in_ok-head.ensures.bundles)) c.in_ok-bundles.ensures

pub state_from-requires-clause-entries : goal.state_from-requires-clause-entries
state_from-requires-clause-entries c = entries_within _ _ _ _ (omega (arith, length-map c.in_ok-head.head.arrays.entries.now view, c.in_ok-head.ensures.entries)) c.in_ok-entries.ensures

pub state_from-requires-clause-svids : goal.state_from-requires-clause-svids
state_from-requires-clause-svids c = svids_within _ _ (omega (arith, length-map c.in_ok-head.head.arrays.svids.now view, c.in_ok-head.ensures.svids)) c.in_ok-svids.ensures
