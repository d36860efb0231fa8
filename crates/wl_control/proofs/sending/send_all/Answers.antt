use Rattle.std.proofs.Common.{◌∙◌, arith}
use Rattle.wl_control.proofs.Passages.{send_more}
use Rattle.wl_control.proofs.sending.send_all.Goals as goal

pub sends-preserved : goal.sends-preserved
sends-preserved g c = record {
  sent = rw c.split_at.ensures.back (send_more _ _ _ _ _ c.in-Took.count c.sends.invariant.sent c.in-Took.ensures.takes.takes.2);
  later = omega (arith, c.sends.invariant.later, c.in-Took.ensures.takes.later);
  receives = c.in-Took.ensures.receives ∙ c.sends.invariant.receives;
}
