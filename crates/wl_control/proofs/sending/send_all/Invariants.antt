use Rattle.std.proofs.Common.{◌≡◌, ◌≤◌, length}
use Rattle.wl_control.proofs.Passages.{Sending}
use Rattle.wl_control.proofs.sending.send_all.Given as goal

abbrev pub invariant-sends : goal.invariant-sends
invariant-sends g l = record {
  sent : Sending (g.L.Link.told l.fn.link) (g.L.Link.told l.link) l.bytes l.rest;
  later : g.L.Link.failed_sends l.fn.link ≤ g.L.Link.failed_sends l.link;
  receives : g.L.Link.failed_receives l.link ≡ g.L.Link.failed_receives l.fn.link;
}

abbrev pub decreases-sends : goal.decreases-sends
decreases-sends g l = length l.rest
