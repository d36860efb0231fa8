use Rattle.std.proofs.Common.{length, arith, ap}
use Rattle.std.specs.List.{flat_map}
use Rattle.workload_proto.specs.declared.field_number.TheConstants.{X509_BUNDLES_BUNDLES}
use Rattle.workload_proto.specs.Spelling.{map_field}
use Rattle.wl_entry.specs.declared.bundles.Bundle.{Bundle}
use Rattle.wl_snapshot.specs.Answers.{x509_map_item}
use Rattle.wl_snapshot.proofs.ItemBytes.{part_among}
use Rattle.wl_snapshot.proofs.messages.put_x509_bundles.Goals as goal

-- an item's bytes are among those of all
pub put_x509_part-requires : goal.put_x509_part-requires
put_x509_part-requires c =
    let among = part_among (map_field X509_BUNDLES_BUNDLES) x509_map_item c.args.bundles.now c.loop-bundle.bundle-index c.bundle-item.result c.loop-bundle-test.true in
    let size = λ (b : Bundle). length (flat_map (map_field X509_BUNDLES_BUNDLES) (x509_map_item b)) in
    omega (arith, among, c.requires, ap size c.bundle-item.is, ap size c.part.ensures)
