use Rattle.std.proofs.Common.{take, ◌∙◌, ap}
use Rattle.wl_match.specs.Changes.{by_id}
use Rattle.wl_match.proofs.ById.{put_next}
use Rattle.wl_match.proofs.changes.entries_by_id.Goals as goal

pub loop-entry-preserved : goal.loop-entry-preserved
loop-entry-preserved c =
    c.in_ok-put.ensures (take c.loop-entry.entry-index c.args.entries.now) c.loop-entry.invariant
    ∙ ap by_id (put_next c.args.entries.now c.loop-entry.entry-index c.entry-item.result c.requires c.loop-entry-test.true c.entry-item.is)
