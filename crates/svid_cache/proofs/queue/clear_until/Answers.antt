use Rattle.std.proofs.Common.{◌<◌, length, arith}
use Rattle.svid_cache.specs.Queue.{clear_second}
use Rattle.svid_cache.proofs.AskBlocks.{write_more}
use Rattle.svid_cache.proofs.queue.clear_until.Goals as goal

pub loop-first-preserved : goal.loop-first-preserved
loop-first-preserved c =
    let below : c.loop-first.first-index < length c.args.firsts.now = omega arith in
    let long : c.loop-first.first-index < length c.loop-first.firsts = omega arith in
    write_more (clear_second c.args.now) c.args.firsts.now c.loop-first.firsts c.loop-first.first-index c.clear.result below long c.loop-first.invariant c.clear.ensures
