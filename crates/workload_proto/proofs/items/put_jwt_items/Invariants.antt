use Rattle.std.proofs.Common.{◌≡◌, ◌++◌, take}
use Rattle.std.specs.List.{flat_map}
use Rattle.workload_proto.specs.Spelling.{jwt_field}
use Rattle.workload_proto.proofs.items.put_jwt_items.Given as goal

abbrev pub invariant-loop-svid : goal.invariant-loop-svid
invariant-loop-svid l = l.out.items ≡ l.fn.out.items ++ flat_map jwt_field (take l.svid-index l.svids)
