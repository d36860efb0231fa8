use Rattle.std.specs.Prelude.{not}
use Rattle.std.proofs.Common.{rules}
use Rattle.std.proofs.lemmas.List.Sorted.{IsPartitionPoint-from_clause}
use Rattle.sorted_blocks.specs.Blocks.{is_above}
use Rattle.sorted_blocks.proofs.Partitions.{parted_up_to, above_dropped}
use Rattle.sorted_blocks.proofs.making.count_up_to.Goals as goal

pub returns-clause-above : goal.returns-clause-above
returns-clause-above g c =
    let parted = parted_up_to g.T.Keyed.key c.args.key.now c.args.items.now c.requires in
    let point = IsPartitionPoint-from_clause (λ x. not (is_above g.T.Keyed.key c.args.key.now x)) _ _ c.partition_point.ensures.partitioned parted (λ a r q k. search rules) in
    above_dropped g.T.Keyed.key c.args.key.now c.args.items.now c.partition_point.result c.partition_point.ensures.bound point.0 point.1
