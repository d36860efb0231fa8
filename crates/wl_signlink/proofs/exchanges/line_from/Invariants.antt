use Rattle.std.proofs.Common.{◌≡◌, ◌≤◌, ◌<◌, ◌-◌, length, false}
use Rattle.wl_edge.proofs.Sources.{Reading}
use Rattle.wl_signlink.specs.Exchanges.{has_newline}
use Rattle.wl_signlink.proofs.exchanges.line_from.Given as goal

abbrev pub invariant-reads : goal.invariant-reads
invariant-reads g l = record {
  had : Reading (g.I.Source.left l.fn.input) (g.I.Source.left l.input) l.done.items;
  none : has_newline l.done.items ≡ false;
  room : 0 < length l.room;
  later : g.I.Source.faults l.fn.input ≤ g.I.Source.faults l.input;
}

abbrev pub decreases-reads : goal.decreases-reads
decreases-reads g l = 262145 - length l.done.items
