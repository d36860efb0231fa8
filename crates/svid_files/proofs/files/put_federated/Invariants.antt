use Rattle.std.proofs.Common.{◌≡◌, ◌++◌, take, map}
use Rattle.svid_files.specs.Files.{federated_file}
use Rattle.svid_files.proofs.files.put_federated.Given as goal

abbrev pub invariant-loop-bundle : goal.invariant-loop-bundle
invariant-loop-bundle l = l.files ≡ l.fn.files ++ map federated_file (take l.bundle-index l.bundles)
