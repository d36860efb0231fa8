use Rattle.std.proofs.Common.{◌≡◌, take}
use Rattle.sorted_blocks.specs.Blocks.{join}
use Rattle.sorted_blocks.proofs.blocks.SortedBlocks.to_row.Given as goal

abbrev pub invariant-loop-block : goal.invariant-loop-block
invariant-loop-block g l = l.items.items ≡ join (take l.block-index l.block-items)
