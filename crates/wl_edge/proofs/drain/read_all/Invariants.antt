use Rattle.std.proofs.Common.{◌≤◌, ◌<◌, ◌-◌, length}
use Rattle.std.specs.Prelude.{vec_len}
use Rattle.wl_edge.proofs.Sources.{Reading}
use Rattle.wl_edge.proofs.drain.read_all.Given as goal

abbrev pub invariant-reads : goal.invariant-reads
invariant-reads g l = record {
  had : Reading (g.I.Source.left l.fn.input) (g.I.Source.left l.input) l.done.items;
  few : length l.done.items ≤ l.limit;
  room : 0 < vec_len l.buffer;
  later : g.I.Source.faults l.fn.input ≤ g.I.Source.faults l.input;
}

abbrev pub decreases-reads : goal.decreases-reads
decreases-reads g l = l.limit - vec_len l.done
