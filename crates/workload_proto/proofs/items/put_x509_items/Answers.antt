use Rattle.std.proofs.Common.{length, arith, ap}
use Rattle.std.proofs.lemmas.List.Folds.{length-flat_map-take}
use Rattle.workload_proto.specs.declared.message.X509Item.{X509Item}
use Rattle.workload_proto.specs.Spelling.{x509_field}
use Rattle.workload_proto.proofs.items.put_x509_items.Goals as goal

-- an item's bytes are among those of all
pub put_x509-requires : goal.put_x509-requires
put_x509-requires c =
    let among = length-flat_map-take x509_field c.args.svids.now c.loop-svid.svid-index c.svid-item.result c.loop-svid-test.true in
    omega (arith, among, ap (λ (x : X509Item). length (x509_field x)) c.svid-item.is)
