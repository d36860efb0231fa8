use Rattle.std.proofs.Common.{refl}
use Rattle.wl_snapshot.proofs.Samples.{one_entry}
use Rattle.wl_subscribe.proofs.tests.listed.Goals as goal

pub invariant_of-result : goal.invariant_of-result
invariant_of-result c = one_entry _ _ _ _ c.in_ok-entries.ensures c.in_ok-svids.ensures c.in_ok-bundles.ensures c.requires.entry refl c.requires.signed c.requires.bundle
