use Rattle.std.proofs.Common.{◌≡◌, ◌++◌, take}
use Rattle.std.specs.List.{flat_map}
use Rattle.workload_proto.specs.Spelling.{map_field}
use Rattle.workload_proto.proofs.items.put_map_items.Given as goal

abbrev pub invariant-loop-item : goal.invariant-loop-item
invariant-loop-item l = l.out.items ≡ l.fn.out.items ++ flat_map (map_field l.number) (take l.item-index l.items)
