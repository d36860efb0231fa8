use Rattle.std.proofs.Common.{refl}
use Rattle.h2_flow.proofs.Orders.{rises_changed}
use Rattle.h2_flow.proofs.outbox.Outbox.offer_message.Goals as goal

pub invariant_of-self : goal.invariant_of-self
invariant_of-self c = (c.self.invariant.0, rises_changed 0 _ c.args.stream _ _ _ _ c.as_mut_slice.ensures.len c.as_mut_slice.ensures.value c.offer.ensures (λ s. refl) c.self.invariant.1)
