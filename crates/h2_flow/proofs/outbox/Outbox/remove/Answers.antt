use Rattle.std.proofs.Common.{rules}
use Rattle.h2_flow.proofs.Orders.{rises_filter}
use Rattle.h2_flow.proofs.outbox.Outbox.remove.Goals as goal

pub invariant_of-self : goal.invariant_of-self
invariant_of-self c = (search rules, rw c.take_out.ensures.streams (rises_filter 0 _ c.self.inside.streams.items c.self.invariant.1))
