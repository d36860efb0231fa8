use Rattle.std.proofs.Common.{◌≡◌, ◌++◌, drop}
use Rattle.std.specs.Prelude.{flat_map}
use Rattle.wl_config.specs.Uids.{numbers_of}
use Rattle.wl_config.proofs.uids.uids_in.Given as goal

abbrev pub invariant-loop-range : goal.invariant-loop-range
invariant-loop-range l = l.uids.items ++ flat_map numbers_of (drop l.range-index l.ranges) ≡ flat_map numbers_of l.ranges
