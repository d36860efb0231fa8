use Rattle.std.proofs.Common.{◌≡◌, take}
use Rattle.wl_snapshot.specs.Views.{entries_at}
use Rattle.wl_snapshot.proofs.make_view.pick_all.Given as goal

abbrev pub invariant-loop-place : goal.invariant-loop-place
invariant-loop-place l = l.chosen.items ≡ entries_at l.entries (take l.place-index l.places)
