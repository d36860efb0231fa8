use Rattle.std.proofs.Common.{◌++◌, append-nil, sym, ◌∙◌, ap}
use Rattle.svid_cache.proofs.AskBlocks.{none_due}
use Rattle.svid_cache.proofs.queue.push_block.Goals as goal

pub returns-then-now-first : goal.returns-then-now-first
returns-then-now-first c = sym (ap (λ l. c.args.due.now.items ++ l) (none_due c.args.renew_before c.args.now c.args.first c.args.svids.now c.args.block.now c.requires.begun c.requires.fits c.if-now-first.true) ∙ append-nil c.args.due.now.items)
