use Rattle.std.proofs.Common.{◌≡◌, ◌++◌, take}
use Rattle.std.specs.List.{flat_map}
use Rattle.svid_forms.specs.Blocks.{bundle_blocks}
use Rattle.svid_forms.proofs.pem.put_bundles_pem.Given as goal

abbrev pub invariant-loop-bundle : goal.invariant-loop-bundle
invariant-loop-bundle l = l.out.items ≡ l.fn.out.items ++ flat_map bundle_blocks (take l.bundle-index l.bundles)
