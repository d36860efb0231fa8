use Rattle.std.proofs.Common.{◌≡◌, ◌++◌, take}
use Rattle.std.specs.List.{flat_map}
use Rattle.wl_control.specs.Lines.{decoded_line}
use Rattle.wl_control.proofs.decoded.put_all_decoded.Given as goal

abbrev pub invariant-loop-svid : goal.invariant-loop-svid
invariant-loop-svid l = l.out.items ≡ l.fn.out.items ++ flat_map decoded_line (take l.svid-index l.svids)
