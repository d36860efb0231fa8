use Rattle.std.proofs.Common.{arith}
use Rattle.wl_worker.proofs.SignerAsks.{none_asked}
use Rattle.wl_worker.proofs.upkeep.sign_asks.Goals as goal

pub loop-init : goal.loop-init
loop-init g c = record { can = (tt, tt); told = none_asked (g.S.Signer.calls c.args.signer.now); faults = omega arith }
