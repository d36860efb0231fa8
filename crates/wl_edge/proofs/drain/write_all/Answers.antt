use Rattle.std.proofs.Common.{arith}
use Rattle.wl_edge.proofs.Sinks.{send_more}
use Rattle.wl_edge.proofs.drain.write_all.Goals as goal

pub sends-preserved : goal.sends-preserved
sends-preserved g c = record {
  sent = rw c.split_at.ensures.back (send_more _ _ _ _ _ c.in-Took.count c.sends.invariant.sent c.in-Took.ensures.gives.2);
  later = omega (arith, c.sends.invariant.later, c.in-Took.ensures.later);
}
