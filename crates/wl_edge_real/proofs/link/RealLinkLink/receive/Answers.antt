use Rattle.wl_edge.specs.Links.{heard_of}
use Rattle.wl_edge_real.proofs.Pieces.{whole_still}
use Rattle.wl_edge_real.proofs.link.RealLinkLink.receive.Goals as goal

pub invariant_of-self : goal.invariant_of-self
invariant_of-self c = record { whole = whole_still _ _ (heard_of c.receive_until-answer.result c.receive_until-answer.new.into) _ _ c.args.self.now.whole c.heard-self.ensures c.receive_until-answer.ensures.got }
