use Rattle.h2_frame.proofs.Settings.{settings_step}
use Rattle.h2_frame.proofs.payload.settings.Goals as goal

pub loop-rest-preserved : goal.loop-rest-preserved
loop-rest-preserved c =
    let step = settings_step c.loop-rest.pairs.items c.loop-rest.rest.now _ c.loop-rest-test.true c.loop-rest.invariant in
    rw (c.in-Ok-push.ensures.items, c.from_be_bytes.ensures, c.number.ensures, c.split_at-in-loop-rest.ensures.back, c.split_at.ensures.front, c.split_at.ensures.back) step
