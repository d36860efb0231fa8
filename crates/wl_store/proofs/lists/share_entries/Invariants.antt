use Rattle.std.proofs.Common.{◌≡◌}
use Rattle.wl_store.proofs.lists.share_entries.Given as goal

abbrev pub invariant-loop-entry : goal.invariant-loop-entry
invariant-loop-entry l = l.shared.items ≡ l.yielded
