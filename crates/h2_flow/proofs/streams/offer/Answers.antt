use Rattle.std.proofs.Common.{sym}
use Rattle.h2_flow.specs.Outboxes.{with_offer}
use Rattle.h2_flow.proofs.streams.offer.Goals as goal

pub returns : goal.returns
returns c = rw c.offer.ensures (sym (c.place-at.ensures.changes (with_offer c.args.message) c.index-streams-at.result))
