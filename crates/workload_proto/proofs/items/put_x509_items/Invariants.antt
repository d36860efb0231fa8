use Rattle.std.proofs.Common.{◌≡◌, ◌++◌, take}
use Rattle.std.specs.List.{flat_map}
use Rattle.workload_proto.specs.Spelling.{x509_field}
use Rattle.workload_proto.proofs.items.put_x509_items.Given as goal

abbrev pub invariant-loop-svid : goal.invariant-loop-svid
invariant-loop-svid l = l.out.items ≡ l.fn.out.items ++ flat_map x509_field (take l.svid-index l.svids)
