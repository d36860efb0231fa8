use Rattle.std.proofs.Common.{◌≡◌, true, take}
use Rattle.std.specs.List.{list_all}
use Rattle.bundle_files.specs.Files.{is_fit}
use Rattle.bundle_files.proofs.fitness.are_fit.Given as goal

abbrev pub invariant-loop-bundle : goal.invariant-loop-bundle
invariant-loop-bundle l = list_all (is_fit l.kind) (take l.bundle-index l.bundles) ≡ true
