use Rattle.std.proofs.Common.{◌≡◌, filter, take}
use Rattle.wl_entry.specs.Entitled.{is_entitled}
use Rattle.wl_snapshot.proofs.make_view.entitled_in.Given as goal

abbrev pub invariant-loop-entry : goal.invariant-loop-entry
invariant-loop-entry l = l.chosen.items ≡ filter (is_entitled l.selectors) (take l.entry-index l.entries)
