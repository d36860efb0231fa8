use Rattle.std.proofs.Common.{◌≡◌, ◌≤◌, ◌<◌, ◌-◌, length, drop}
use Rattle.wl_worker.specs.Sending.{Passes}
use Rattle.wl_worker.proofs.flush.flush_output.Given as goal

abbrev pub invariant-sends : goal.invariant-sends
invariant-sends g l = record {
  room : 0 < length l.lent;
  within : l.sent ≤ length l.output;
  passes : Passes (g.L.Link.told l.fn.link) (g.L.Link.told l.link) (drop l.start l.fn.output) (drop l.sent l.output);
  sends : g.L.Link.failed_sends l.fn.link ≤ g.L.Link.failed_sends l.link;
  stalls : g.L.Link.stalls l.fn.link ≤ g.L.Link.stalls l.link;
  origin : g.L.Link.origin l.link ≡ g.L.Link.origin l.fn.link;
  receives : g.L.Link.failed_receives l.link ≡ g.L.Link.failed_receives l.fn.link;
}

abbrev pub decreases-sends : goal.decreases-sends
decreases-sends g l = length l.output - l.sent
