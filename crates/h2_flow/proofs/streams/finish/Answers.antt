use Rattle.std.proofs.Common.{sym, Some, true}
use Rattle.h2_flow.specs.declared.stream.Stream.{Stream}
use Rattle.h2_flow.proofs.streams.finish.Goals as goal

pub returns : goal.returns
returns c = rw c.finish.ensures (sym (c.place-at.ensures.changes (λ (s : Stream). record s { trailers = Some c.args.block; finished = true }) c.index-streams-at.result))
