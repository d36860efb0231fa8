use Rattle.std.proofs.Common.{◌≡◌, false, take, map}
use Rattle.wl_snapshot.proofs.make_view.no_marks.Given as goal

abbrev pub invariant-loop : goal.invariant-loop
invariant-loop l = l.marks.items ≡ map (λ b. false) (take l.index l.bundles)
