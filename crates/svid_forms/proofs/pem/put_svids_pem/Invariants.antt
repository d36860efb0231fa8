use Rattle.std.proofs.Common.{◌≡◌, ◌++◌, take}
use Rattle.std.specs.List.{flat_map}
use Rattle.svid_forms.specs.Blocks.{svid_blocks}
use Rattle.svid_forms.proofs.pem.put_svids_pem.Given as goal

abbrev pub invariant-loop-svid : goal.invariant-loop-svid
invariant-loop-svid l = l.out.items ≡ l.fn.out.items ++ flat_map svid_blocks (take l.svid-index l.svids)
