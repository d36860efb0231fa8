use Rattle.std.proofs.Common.{sym, Some}
use Rattle.h2_flow.specs.declared.stream.Stream.{Stream}
use Rattle.h2_flow.proofs.streams.head.Goals as goal

pub returns : goal.returns
returns c = sym (c.place-at.ensures.changes (λ (s : Stream). record s { head = Some c.args.block }) c.index-streams-at.result)
