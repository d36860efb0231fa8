-- what is left of the audiences gives what all of them give
use Rattle.std.proofs.Common.{◌≡◌, [], drop}
use Rattle.wl_selector.specs.Selectors.{sorted_onto}
use Rattle.jwt_cache.proofs.sorting.sort_audience.Given as goal

abbrev pub invariant-loop-one : goal.invariant-loop-one
invariant-loop-one l = sorted_onto l.kept.keys (drop l.one-index l.audience) ≡ sorted_onto [] l.audience
