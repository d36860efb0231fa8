use Rattle.std.proofs.Common.{◌≡◌, sym, ap, ◌∙◌, Option}
use Rattle.wl_client.specs.declared.fault.ClientFault.{ClientFault}
use Rattle.wl_client.specs.Clients.{Listening, state_by}
use Rattle.wl_client.proofs.Arrivals.{feeds_here, feeds_fault}
use Rattle.wl_client.proofs.client.Client.feed_inner.Goals as goal

pub returns-in-Ok-clause-fed : goal.returns-in-Ok-clause-fed
returns-in-Ok-clause-fed c =
    let i = c.self.inside in
    let here : Listening i.parser i.listener ≡ c.args.self.now.state = sym (ap (λ (f : Option ClientFault). state_by f i.parser i.listener) c.in_default.is) ∙ ap (λ v. v.state) c.self.view_is in
    feeds_here c.args.self.now.state i.failed i.parser c.advance.new.parser i.listener c.advance.new.listener c.args.piece.now c.args.into.now c.advance.new.into c.args.out.now c.advance.new.out here c.in_default.is c.in-Ok.ensures.fed

pub returns-in-Err-clause-fed : goal.returns-in-Err-clause-fed
returns-in-Err-clause-fed c =
    let i = c.self.inside in
    let here : Listening i.parser i.listener ≡ c.args.self.now.state = sym (ap (λ (f : Option ClientFault). state_by f i.parser i.listener) c.in_default.is) ∙ ap (λ v. v.state) c.self.view_is in
    feeds_fault c.args.self.now.state c.in-Err.fault i.parser c.advance.new.parser i.listener c.advance.new.listener c.args.piece.now c.args.into.now c.advance.new.into c.args.out.now c.advance.new.out here c.in-Err.ensures.fed
