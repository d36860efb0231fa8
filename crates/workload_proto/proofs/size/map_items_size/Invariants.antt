use Rattle.std.proofs.Common.{◌≡◌, length, take}
use Rattle.std.specs.List.{flat_map}
use Rattle.workload_proto.specs.Spelling.{capped, map_field}
use Rattle.workload_proto.proofs.size.map_items_size.Given as goal

abbrev pub invariant-loop-item : goal.invariant-loop-item
invariant-loop-item l = l.size ≡ capped (length (flat_map (map_field l.number) (take l.item-index l.items)))
