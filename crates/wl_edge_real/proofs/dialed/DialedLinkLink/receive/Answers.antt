use Rattle.wl_edge.specs.Links.{heard_of}
use Rattle.wl_edge_real.proofs.Pieces.{whole_still}
use Rattle.wl_edge_real.proofs.dialed.DialedLinkLink.receive.Goals as goal

pub invariant_of-self : goal.invariant_of-self
invariant_of-self g c = record { whole = whole_still _ _ (heard_of c.receive_from-answer.result c.receive_from-answer.new.into) _ _ c.args.self.now.whole c.heard-self.ensures c.receive_from-answer.ensures.got }

pub invariant_of-self-else-eq : goal.invariant_of-self-else-eq
invariant_of-self-else-eq g c = record { whole = whole_still _ _ (heard_of c.receive_from-answer.result c.receive_from-answer.new.into) _ _ c.args.self.now.whole c.heard-self.ensures c.receive_from-answer.ensures.got }
