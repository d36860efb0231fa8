use Rattle.std.proofs.Common.{◌≡◌, take, map, length}
use Rattle.wl_snapshot.specs.Views.{is_federated}
use Rattle.wl_snapshot.proofs.make_view.mark_federated.Given as goal

abbrev pub invariant-loop-entry : goal.invariant-loop-entry
invariant-loop-entry l = record {
  each : length l.marks ≡ length l.bundles;
  marked : l.marks ≡ map (λ b. is_federated (take l.entry-index l.entries) b.domain) l.bundles;
}
