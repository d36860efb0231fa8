use Rattle.std.proofs.Common.{length, arith, ap}
use Rattle.std.proofs.lemmas.List.Folds.{length-flat_map-take}
use Rattle.workload_proto.specs.declared.message.JwtItem.{JwtItem}
use Rattle.workload_proto.specs.Spelling.{jwt_field}
use Rattle.workload_proto.proofs.items.put_jwt_items.Goals as goal

-- an item's bytes are among those of all
pub put_jwt_item-requires : goal.put_jwt_item-requires
put_jwt_item-requires c =
    let among = length-flat_map-take jwt_field c.args.svids.now c.loop-svid.svid-index c.svid-item.result c.loop-svid-test.true in
    omega (arith, among, ap (λ (x : JwtItem). length (jwt_field x)) c.svid-item.is)
