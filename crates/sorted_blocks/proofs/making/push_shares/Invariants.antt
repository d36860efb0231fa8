use Rattle.std.proofs.Common.{◌≡◌, ◌++◌, take}
use Rattle.sorted_blocks.proofs.making.push_shares.Given as goal

abbrev pub invariant-loop-part : goal.invariant-loop-part
invariant-loop-part g l = l.shares.items ≡ l.fn.shares.items ++ take l.part-index l.parts
