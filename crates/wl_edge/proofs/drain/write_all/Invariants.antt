use Rattle.std.proofs.Common.{◌≤◌, length}
use Rattle.wl_edge.proofs.Sinks.{Sending}
use Rattle.wl_edge.proofs.drain.write_all.Given as goal

abbrev pub invariant-sends : goal.invariant-sends
invariant-sends g l = record {
  sent : Sending (g.O.Sink.taken l.fn.output) (g.O.Sink.taken l.output) l.text l.rest;
  later : g.O.Sink.faults l.fn.output ≤ g.O.Sink.faults l.output;
}

abbrev pub decreases-sends : goal.decreases-sends
decreases-sends g l = length l.rest
