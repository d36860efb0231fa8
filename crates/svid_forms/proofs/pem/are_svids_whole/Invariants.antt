use Rattle.std.proofs.Common.{◌≡◌, true, take}
use Rattle.std.specs.List.{list_all}
use Rattle.svid_forms.specs.Blocks.{is_svid_whole}
use Rattle.svid_forms.proofs.pem.are_svids_whole.Given as goal

abbrev pub invariant-loop-svid : goal.invariant-loop-svid
invariant-loop-svid l = list_all is_svid_whole (take l.svid-index l.svids) ≡ true
