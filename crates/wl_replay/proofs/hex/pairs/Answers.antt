use Rattle.std.proofs.Common.{sym}
use Rattle.wl_replay.proofs.Texts.{pairs_next}
use Rattle.wl_replay.proofs.hex.pairs.Goals as goal

pub pairs-preserved : goal.pairs-preserved
pairs-preserved c = rw c.in_ok-push-in-Some-pair.ensures.items (pairs_next _ c.pairs.bytes.items c.pairs.rest.now c.in-Some.high c.in-Some.low c.in-Some-pair.byte c.in-Some.after.now c.pairs.invariant c.in-Some.ensures.some (sym c.in-Some-pair.ensures))
