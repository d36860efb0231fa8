use Rattle.std.proofs.Common.{◌≡◌, take, length}
use Rattle.std.specs.List.{flat_map}
use Rattle.workload_proto.specs.Spelling.{capped, x509_field}
use Rattle.wl_snapshot.specs.Answers.{x509_items}
use Rattle.wl_snapshot.proofs.sizes.svids_size.Given as goal

abbrev pub invariant-loop-one : goal.invariant-loop-one
invariant-loop-one l = l.size ≡ capped (length (flat_map x509_field (flat_map (x509_items l.own) (take l.one-index l.held))))
