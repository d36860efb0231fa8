use Rattle.std.proofs.Common.{◌≡◌, map, take}
use Rattle.wl_snapshot.specs.Views.{held_of}
use Rattle.wl_snapshot.proofs.make_view.hold_all.Given as goal

abbrev pub invariant-loop-entry : goal.invariant-loop-entry
invariant-loop-entry l = l.held ≡ map (held_of l.svids) (take l.entry-index l.entries)
