use Rattle.std.proofs.Common.{◌≡◌, [], length}
use Rattle.std.specs.List.{AllByRecursion}
use Rattle.json_members.specs.Arrays.{at_end}
use Rattle.json_members.proofs.Walks.{Reached}
use Rattle.wl_config.specs.Uids.{range_at, IsRange}
use Rattle.wl_config.proofs.uids.ranges.Given as goal

abbrev pub invariant-loop-value : goal.invariant-loop-value
invariant-loop-value l = Reached (λ k before d. range_at l.place k d) at_end [] l.values l.index l.value-index l.done.items × (length l.done.items ≡ l.value-index) × AllByRecursion IsRange l.done.items
