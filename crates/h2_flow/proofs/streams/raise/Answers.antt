use Rattle.std.proofs.Common.{sym, ◌+ℤ◌, pos}
use Rattle.h2_flow.specs.declared.stream.Stream.{Stream}
use Rattle.h2_flow.proofs.streams.raise.Goals as goal

pub returns : goal.returns
returns c = rw c.raise.ensures (sym (c.place-at.ensures.changes (λ (s : Stream). record s { credit = s.credit +ℤ pos c.args.step }) c.index-streams-at.result))
