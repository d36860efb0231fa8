use Rattle.std.proofs.Common.{◌≡◌, length, take}
use Rattle.std.specs.List.{flat_map}
use Rattle.workload_proto.specs.Spelling.{capped, x509_field}
use Rattle.workload_proto.proofs.size.x509_items_size.Given as goal

abbrev pub invariant-loop-svid : goal.invariant-loop-svid
invariant-loop-svid l = l.size ≡ capped (length (flat_map x509_field (take l.svid-index l.svids)))
