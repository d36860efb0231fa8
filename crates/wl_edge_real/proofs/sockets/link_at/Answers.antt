use Rattle.std.proofs.lemmas.Result.{IfOk-weaker}
use Rattle.wl_edge_real.proofs.Places.{origin_at}
use Rattle.wl_edge_real.proofs.sockets.link_at.Goals as goal

pub returns-in-Some-clause-origin : goal.returns-in-Some-clause-origin
returns-in-Some-clause-origin c = IfOk-weaker c.next_link.result _ _ (λ l is. origin_at c.args.places.now c.args.at c.in-Some.place.now _ c.in-Some.ensures.lookup.3.0 (c.in-Some.ensures.lookup.3.1 c.in-Some.place.now) is) c.next_link.ensures.origin
