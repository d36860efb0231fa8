use Rattle.wl_subscribe.proofs.subscribers.Subscribers.leave.Goals as goal

pub invariant_of-self : goal.invariant_of-self
invariant_of-self c = c.remove_member.ensures.kept c.self.inside.next c.self.invariant
