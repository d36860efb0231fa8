use Rattle.std.proofs.Common.{◌≡◌, length, take}
use Rattle.std.specs.List.{flat_map}
use Rattle.workload_proto.specs.Spelling.{capped, jwt_field}
use Rattle.workload_proto.proofs.size.jwt_items_size.Given as goal

abbrev pub invariant-loop-svid : goal.invariant-loop-svid
invariant-loop-svid l = l.size ≡ capped (length (flat_map jwt_field (take l.svid-index l.svids)))
