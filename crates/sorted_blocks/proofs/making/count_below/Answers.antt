use Rattle.std.proofs.Common.{rules}
use Rattle.std.proofs.lemmas.List.Sorted.{IsPartitionPoint-from_clause}
use Rattle.sorted_blocks.specs.Blocks.{is_below}
use Rattle.sorted_blocks.proofs.Partitions.{parted_below, take_chosen}
use Rattle.sorted_blocks.proofs.making.count_below.Goals as goal

pub returns-clause-below : goal.returns-clause-below
returns-clause-below g c =
    let test = is_below g.T.Keyed.key c.args.key.now in
    let parted = parted_below g.T.Keyed.key c.args.key.now c.args.items.now c.requires in
    let point = IsPartitionPoint-from_clause test _ _ c.partition_point.ensures.partitioned parted (λ a r q k. search rules) in
    take_chosen test c.args.items.now c.partition_point.result c.partition_point.ensures.bound point.0 point.1
