use Rattle.grpc_wire.proofs.Pieces.{feeds_stop, feeds_join, front_stop, front_join}
use Rattle.grpc_wire.proofs.messages.Messages.feed_inner.Goals as goal

pub returns-in-Ok-clause-fed : goal.returns-in-Ok-clause-fed
returns-in-Ok-clause-fed c =
    feeds_join c.args.self.now.limit c.advance.new.self.limit c.args.self.now.ending c.advance.new.self.ending _ c.min.result c.args.piece.now _ c.in-Ok.field-0 c.args.into.now c.advance.new.into _ c.in-Ok.ensures.limit (rw c.split_at.ensures.front at c.in-Ok.ensures.fed) (rw c.split_at.ensures.back at c.feed_content.ensures.fed)

pub returns-in-Ok-clause-prefix : goal.returns-in-Ok-clause-prefix
returns-in-Ok-clause-prefix c =
    front_join c.args.self.now.limit c.advance.new.self.limit c.args.self.now.ending c.advance.new.self.ending c.min.result c.args.piece.now c.in-Ok.field-0 c.args.into.now c.advance.new.into _ c.in-Ok.ensures.limit (rw c.split_at.ensures.front at c.in-Ok.ensures.fed) (rw c.split_at.ensures.back at c.feed_content.ensures.prefix)

pub returns-in-Err-clause-fed : goal.returns-in-Err-clause-fed
returns-in-Err-clause-fed c =
    feeds_stop c.args.self.now.limit c.args.self.now.ending _ c.min.result c.args.piece.now c.in-Err.fault c.args.into.now c.advance.new.into (rw c.split_at.ensures.front at c.in-Err.ensures.fed)

pub returns-in-Err-clause-prefix : goal.returns-in-Err-clause-prefix
returns-in-Err-clause-prefix c =
    front_stop c.args.self.now.limit c.args.self.now.ending c.min.result c.args.piece.now c.args.into.now c.advance.new.into (rw c.split_at.ensures.front at c.in-Err.ensures.prefix)
