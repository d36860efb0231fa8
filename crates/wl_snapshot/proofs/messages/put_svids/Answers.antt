use Rattle.std.proofs.Common.{length, arith, ap}
use Rattle.std.specs.List.{flat_map}
use Rattle.workload_proto.specs.Spelling.{x509_field}
use Rattle.wl_snapshot.specs.declared.views.Held.{Held}
use Rattle.wl_snapshot.specs.Answers.{x509_items}
use Rattle.wl_snapshot.proofs.ItemBytes.{part_among}
use Rattle.wl_snapshot.proofs.messages.put_svids.Goals as goal

-- an item's bytes are among those of all
pub put_svid-requires : goal.put_svid-requires
put_svid-requires c =
    let among = part_among x509_field (x509_items c.args.own.now) c.args.held.now c.loop-one.one-index c.one-item.result c.loop-one-test.true in
    omega (arith, among, c.requires, ap (λ (h : Held). length (flat_map x509_field (x509_items c.args.own.now h))) c.one-item.is)
