use Rattle.std.proofs.Common.{false}
use Rattle.wl_replay.proofs.Simulations.{entry_next, entry_written}
use Rattle.wl_replay.proofs.generated.put_entries.Goals as goal

pub loop-at-preserved : goal.loop-at-preserved
loop-at-preserved c =
    entry_written _ c.loop-at.out.items c.put_entry.new.out.items _ _ _ c.loop-at.invariant
    (entry_next c.args.callers c.args.named.now c.loop-at.at false c.loop-at-test.true)
    c.in_ok-put_entry.ensures
