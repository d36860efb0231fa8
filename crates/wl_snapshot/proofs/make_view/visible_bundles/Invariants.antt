use Rattle.std.proofs.Common.{◌≡◌, take, filter}
use Rattle.wl_snapshot.specs.Views.{is_seen}
use Rattle.wl_snapshot.proofs.make_view.visible_bundles.Given as goal

abbrev pub invariant-loop-at : goal.invariant-loop-at
invariant-loop-at l = l.seen ≡ filter (is_seen l.own l.entries) (take l.at l.bundles)
