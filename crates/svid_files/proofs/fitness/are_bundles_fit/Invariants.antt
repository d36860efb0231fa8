use Rattle.std.proofs.Common.{◌≡◌, true, take}
use Rattle.std.specs.List.{list_all}
use Rattle.svid_files.specs.Files.{is_bundle_fit}
use Rattle.svid_files.proofs.fitness.are_bundles_fit.Given as goal

abbrev pub invariant-loop-bundle : goal.invariant-loop-bundle
invariant-loop-bundle l = list_all is_bundle_fit (take l.bundle-index l.bundles) ≡ true
