use Rattle.std.proofs.Common.{length, arith, ap}
use Rattle.std.specs.List.{flat_map}
use Rattle.workload_proto.specs.declared.field_number.TheConstants.{X509_RESPONSE_FEDERATED_BUNDLES}
use Rattle.workload_proto.specs.Spelling.{map_field}
use Rattle.wl_entry.specs.declared.bundles.Bundle.{Bundle}
use Rattle.wl_snapshot.specs.Answers.{federated_item}
use Rattle.wl_snapshot.proofs.ItemBytes.{part_among}
use Rattle.wl_snapshot.proofs.messages.put_federated.Goals as goal

-- an item's bytes are among those of all
pub put_foreign-requires : goal.put_foreign-requires
put_foreign-requires c =
    let among = part_among (map_field X509_RESPONSE_FEDERATED_BUNDLES) (federated_item c.args.own.now) c.args.bundles.now c.loop-bundle.bundle-index c.bundle-item.result c.loop-bundle-test.true in
    let size = λ (b : Bundle). length (flat_map (map_field X509_RESPONSE_FEDERATED_BUNDLES) ((federated_item c.args.own.now) b)) in
    omega (arith, among, c.requires, ap size c.bundle-item.is, ap size c.part.ensures)
