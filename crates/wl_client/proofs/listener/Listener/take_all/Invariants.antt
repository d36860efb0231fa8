use Rattle.std.proofs.Common.{◌≡◌, ◌++◌}
use Rattle.wl_client.proofs.Hearings.{Came}
use Rattle.wl_client.proofs.listener.Listener.take_all.Given as goal

abbrev pub invariant-loop-frame : goal.invariant-loop-frame
invariant-loop-frame l = record {
  whole : l.fn.frames ≡ l.yielded ++ l.frame-iterator.rest.items;
  came : Came l.yielded l.fn.self l.self l.fn.into l.into l.fn.out l.out;
}
