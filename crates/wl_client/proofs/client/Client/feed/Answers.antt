use Rattle.wl_client.proofs.Cuts.{stands_on}
use Rattle.wl_client.proofs.client.Client.feed.Goals as goal

pub returns-clause-stands : goal.returns-clause-stands
returns-clause-stands c = λ fed stood.
    stands_on c.args.self.now.state c.feed_inner.new.self.state fed c.args.piece.now c.feed_inner.result c.args.into.now c.feed_inner.new.into c.args.out.now c.feed_inner.new.out c.feed_inner.ensures.fed c.feed_inner.ensures.again stood
