use Rattle.std.proofs.Common.{◌≡◌, ◌++◌, length}
use Rattle.sorted_blocks.specs.Blocks.{join, AreFilled}
use Rattle.sorted_blocks.proofs.making.fill.Given as goal

abbrev pub invariant-loop-rest : goal.invariant-loop-rest
invariant-loop-rest g l = (join l.blocks.items ++ l.rest ≡ l.items) × AreFilled l.blocks.items

abbrev pub decreases-loop-rest : goal.decreases-loop-rest
decreases-loop-rest g l = length l.rest
