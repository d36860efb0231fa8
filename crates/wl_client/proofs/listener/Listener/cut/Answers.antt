use Rattle.std.proofs.Common.{List, ℕ, subst}
use Rattle.list_laws.specs.Lists.{GainsFront}
use Rattle.grpc_wire.specs.Messages.{reading_from}
use Rattle.wl_client.proofs.Steps.{told_found}
use Rattle.wl_client.proofs.listener.Listener.cut.Goals as goal

pub returns-in_err-tell_messages-clause-prefix : goal.returns-in_err-tell_messages-clause-prefix
returns-in_err-tell_messages-clause-prefix c =
    let m = c.args.self.now.messages in
    let due = (reading_from m.limit m.ending c.args.bytes.now).messages in
    told_found due c.feed-cut.new.into c.args.into.now c.tell_messages.new.into (subst (λ (xs : List (List ℕ)). GainsFront due xs c.feed-cut.new.into) c.empty-found.ensures c.feed-cut.ensures.prefix) c.tell_messages.ensures.prefix

pub returns-in-Err-Memory-clause-prefix : goal.returns-in-Err-Memory-clause-prefix
returns-in-Err-Memory-clause-prefix c =
    let m = c.args.self.now.messages in
    let due = (reading_from m.limit m.ending c.args.bytes.now).messages in
    told_found due c.feed-cut.new.into c.args.into.now c.tell_messages.new.into (subst (λ (xs : List (List ℕ)). GainsFront due xs c.feed-cut.new.into) c.empty-found.ensures c.feed-cut.ensures.prefix) c.tell_messages.ensures.prefix
