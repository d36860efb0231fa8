use Rattle.std.proofs.Common.{◌≡◌, ◌-◌, ◌≤◌, ◌++◌}
use Rattle.std.specs.List.{range_with_len}
use Rattle.wl_config.proofs.uids.push_range.Given as goal

abbrev pub invariant-loop-uid : goal.invariant-loop-uid
invariant-loop-uid l = record {
  pushed : l.uids.items ≡ l.fn.uids.items ++ range_with_len l.fn.range.first (l.uid - l.fn.range.first);
  within : l.uid - l.fn.range.first ≤ l.fn.range.end - l.fn.range.first;
}
