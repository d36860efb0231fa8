use Rattle.std.proofs.Common.{◌≡◌, ◌++◌, drop}
use Rattle.wl_replay.specs.Generated.{entries_text}
use Rattle.wl_replay.proofs.generated.put_entries.Given as goal

abbrev pub invariant-loop-at : goal.invariant-loop-at
invariant-loop-at l = l.fn.out.items ++ entries_text l.callers 0 l.named ≡ l.out.items ++ entries_text l.callers l.at (drop l.at l.named)
