use Rattle.std.proofs.Common.{◌≡◌, true, take}
use Rattle.std.specs.List.{list_all}
use Rattle.svid_forms.specs.Blocks.{is_bundle_whole}
use Rattle.svid_forms.proofs.pem.are_bundles_whole.Given as goal

abbrev pub invariant-loop-bundle : goal.invariant-loop-bundle
invariant-loop-bundle l = list_all is_bundle_whole (take l.bundle-index l.bundles) ≡ true
