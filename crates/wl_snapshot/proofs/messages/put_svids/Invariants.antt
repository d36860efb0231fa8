use Rattle.std.proofs.Common.{◌≡◌, ◌++◌, take}
use Rattle.std.specs.List.{flat_map}
use Rattle.workload_proto.specs.Spelling.{x509_field}
use Rattle.wl_snapshot.specs.Answers.{x509_items}
use Rattle.wl_snapshot.proofs.messages.put_svids.Given as goal

abbrev pub invariant-loop-one : goal.invariant-loop-one
invariant-loop-one l = l.out.items ≡ l.fn.out.items ++ flat_map x509_field (flat_map (x509_items l.own) (take l.one-index l.held))
