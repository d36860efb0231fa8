use Rattle.std.proofs.Common.{List}
use Rattle.h2_flow.specs.Streams.{Sent}
use Rattle.h2_flow.specs.Pulls.{all_work}
use Rattle.h2_flow.proofs.Puts.{Put}
use Rattle.h2_flow.proofs.Rounds.{Left}
use Rattle.h2_flow.proofs.pull.take_rounds.Given as goal

abbrev pub invariant-rounds : goal.invariant-rounds
invariant-rounds l =
    (done : List Sent) × Put done l.initial.out l.out l.initial.ended l.ended × Left l.initial.flow l.initial.streams done l.flow l.streams

abbrev pub decreases-rounds : goal.decreases-rounds
decreases-rounds l = all_work l.streams
