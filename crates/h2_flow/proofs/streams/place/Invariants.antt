use Rattle.std.proofs.Common.{length, ◌-◌}
use Rattle.h2_flow.proofs.Places.{IsBefore}
use Rattle.h2_flow.proofs.streams.place.Given as goal

abbrev pub invariant-loop-at : goal.invariant-loop-at
invariant-loop-at l = IsBefore l.number l.streams l.at

abbrev pub decreases-loop-at : goal.decreases-loop-at
decreases-loop-at l = length l.streams - l.at
