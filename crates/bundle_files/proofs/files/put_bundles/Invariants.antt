use Rattle.std.proofs.Common.{◌≡◌, ◌++◌, map, take}
use Rattle.bundle_files.specs.Files.{file_of}
use Rattle.bundle_files.proofs.files.put_bundles.Given as goal

abbrev pub invariant-loop-bundle : goal.invariant-loop-bundle
invariant-loop-bundle l = l.files ≡ l.fn.files ++ map (file_of l.kind) (take l.bundle-index l.bundles)
