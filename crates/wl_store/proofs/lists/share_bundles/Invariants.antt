use Rattle.std.proofs.Common.{◌≡◌}
use Rattle.wl_store.proofs.lists.share_bundles.Given as goal

abbrev pub invariant-loop-bundle : goal.invariant-loop-bundle
invariant-loop-bundle l = l.shared.items ≡ l.yielded
