use Rattle.std.proofs.Common.{◌≡◌, ◌++◌, take}
use Rattle.std.specs.List.{flat_map}
use Rattle.wl_control.specs.Lines.{jwt_line}
use Rattle.wl_control.proofs.lines.put_jwts.Given as goal

abbrev pub invariant-loop-svid : goal.invariant-loop-svid
invariant-loop-svid l = l.out.items ≡ l.fn.out.items ++ flat_map jwt_line (take l.svid-index l.svids)
