use Rattle.std.proofs.Common.{rules}
use Rattle.h2_flow.proofs.Orders.{rises_pushed}
use Rattle.h2_flow.proofs.outbox.Outbox.add.Goals as goal

pub invariant_of-self : goal.invariant_of-self
invariant_of-self c = (search rules, rw c.push.ensures.items (rises_pushed _ c.args.stream _ _ c.new-new.ensures c.requires.positive (rw (← c.self.view_is) at c.requires.above) c.self.invariant.1))
