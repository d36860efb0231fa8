use Rattle.std.proofs.Common.{length, arith, ap}
use Rattle.std.proofs.lemmas.List.Folds.{length-flat_map-take}
use Rattle.workload_proto.specs.declared.message.MapItem.{MapItem}
use Rattle.workload_proto.specs.Spelling.{map_field}
use Rattle.workload_proto.proofs.items.put_map_items.Goals as goal

-- an item's bytes are among those of all
pub put_map-requires-clause-size : goal.put_map-requires-clause-size
put_map-requires-clause-size c =
    let among = length-flat_map-take (map_field c.args.number) c.args.items.now c.loop-item.item-index c.item-item.result c.loop-item-test.true in
    omega (arith, among, ap (λ (x : MapItem). length ((map_field c.args.number) x)) c.item-item.is)
