use Rattle.std.proofs.Common.{◌≡◌, ◌+◌, ◌*◌, ◌≤◌, length, drop}
use Rattle.std.specs.Prelude.{flat_map}
use Rattle.wl_config.specs.Uids.{numbers_of}
use Rattle.wl_config.proofs.uids.count_of.Given as goal

abbrev pub invariant-loop-range : goal.invariant-loop-range
invariant-loop-range l = record {
  so_far : l.count + length (flat_map numbers_of (drop l.range-index l.ranges)) ≡ length (flat_map numbers_of l.ranges);
  few : l.count ≤ 4294967296 * l.range-index;
}
