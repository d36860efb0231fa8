use Rattle.std.proofs.Common.{refl, ◌∙◌}
use Rattle.wl_snapshot.proofs.Samples.{one_entry}
use Rattle.wl_session_tests.proofs.tests.publications.listed.Goals as goal

pub invariant_of-result : goal.invariant_of-result
invariant_of-result g c =
    let entries = c.shared-entries.ensures ∙ c.alone-entries.ensures in
    let bundles = c.shared-bundles.ensures ∙ c.alone-bundles.ensures in
    one_entry _ _ _ _ entries c.svid-svids.ensures bundles c.requires.entry refl c.requires.signed c.requires.bundle
