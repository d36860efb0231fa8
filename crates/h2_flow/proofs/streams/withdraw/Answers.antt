use Rattle.std.proofs.Common.{sym, None}
use Rattle.h2_flow.specs.declared.stream.Stream.{Stream}
use Rattle.h2_flow.proofs.streams.withdraw.Goals as goal

pub returns : goal.returns
returns c = sym (c.place-at.ensures.changes (λ (s : Stream). record s { waiting = None }) c.index-streams-at.result)
