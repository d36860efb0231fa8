use Rattle.std.proofs.Common.{arith}
use Rattle.hpack.proofs.Walks.{step_adds, step_passes, step_fails}
use Rattle.hpack.proofs.huffman.step.Goals as goal

pub returns-in_ok-push : goal.returns-in_ok-push
returns-in_ok-push c = rw c.in_ok-push.ensures.items (step_adds c.args.node c.args.nibble c.entry-entry.result c.args.text.now.items (omega arith) c.requires c.entry-entry.ensures c.if-symbol-lt256.true)

pub returns-then-symbol-eq256 : goal.returns-then-symbol-eq256
returns-then-symbol-eq256 c = step_passes c.args.node c.args.nibble c.entry-entry.result c.args.text.now.items (omega arith) c.requires c.entry-entry.ensures c.if-symbol-eq256.true

pub returns-else-symbol-eq256 : goal.returns-else-symbol-eq256
returns-else-symbol-eq256 c = step_fails c.args.node c.args.nibble c.entry-entry.result c.args.text.now.items c.args.text.now.items (omega arith) c.requires c.entry-entry.ensures (omega arith)
