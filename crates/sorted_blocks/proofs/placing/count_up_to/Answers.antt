use Rattle.std.proofs.Common.{rules}
use Rattle.std.proofs.lemmas.List.Sorted.{IsPartitionPoint-from_clause}
use Rattle.sorted_blocks.specs.Places.{begins_up_to}
use Rattle.sorted_blocks.proofs.BlockOfKey.{parted_blocks, placed}
use Rattle.sorted_blocks.proofs.placing.count_up_to.Goals as goal

pub returns-clause-place : goal.returns-clause-place
returns-clause-place g c =
    let parted = parted_blocks g.T.Keyed.key c.args.key.now c.args.blocks.now c.requires.filled c.requires.rises in
    let point = IsPartitionPoint-from_clause (begins_up_to g.T.Keyed.key c.args.key.now) _ _ c.partition_point.ensures.partitioned parted (λ a r q k. search rules) in
    placed g.T.Keyed.key c.args.key.now c.partition_point.result c.args.blocks.now c.requires.filled c.requires.rises c.partition_point.ensures.bound point.0 point.1
