use Rattle.std.proofs.Common.{List, take, drop}
use Rattle.h2_flow.specs.Streams.{Sent}
use Rattle.h2_flow.proofs.Puts.{Put}
use Rattle.h2_flow.proofs.Rounds.{SoFar}
use Rattle.h2_flow.proofs.pull.take_round.Given as goal

abbrev pub invariant-loop-stream : goal.invariant-loop-stream
invariant-loop-stream l =
    (done : List Sent) × Put done l.initial.out l.out l.initial.ended l.ended
    × SoFar l.initial.flow l.initial.streams done (take l.stream-index l.streams) (drop l.stream-index l.streams) l.flow
