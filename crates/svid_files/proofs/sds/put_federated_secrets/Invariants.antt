use Rattle.std.proofs.Common.{◌≡◌, ◌++◌, take}
use Rattle.std.specs.List.{flat_map}
use Rattle.svid_files.specs.Sds.{federated_secret}
use Rattle.svid_files.proofs.sds.put_federated_secrets.Given as goal

abbrev pub invariant-loop-bundle : goal.invariant-loop-bundle
invariant-loop-bundle l = l.out.items ≡ l.fn.out.items ++ flat_map (federated_secret l.folder) (take l.bundle-index l.bundles)
