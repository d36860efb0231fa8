use Rattle.std.proofs.Common.{sym, subst, rules}
use Rattle.list_laws.specs.Lists.{GainsFront}
use Rattle.wl_client.specs.Hearing.{Hearing, Tells}
use Rattle.wl_client.proofs.Steps.{continued_at}
use Rattle.wl_client.proofs.listener.Listener.continue_block.Goals as goal

pub returns-in_ok-push_slice-in-Some-clause-said : goal.returns-in_ok-push_slice-in-Some-clause-said
returns-in_ok-push_slice-in-Some-clause-said c =
    subst (λ (h : Hearing). Tells h c.take_block.result c.args.into.now c.take_block.new.into c.take_block.new.self)
    (sym (continued_at c.args.self.now c.in-Some.block c.args.more.now c.push_slice.new.self c.args.whole (search rules) (search rules) c.in_ok-push_slice-in-Some.ensures.ok))
    (rw c.replace.ensures.after at c.take_block.ensures.said)

pub returns-in_ok-push_slice-in-Some-clause-prefix : goal.returns-in_ok-push_slice-in-Some-clause-prefix
returns-in_ok-push_slice-in-Some-clause-prefix c =
    subst (λ (h : Hearing). GainsFront h.told c.args.into.now c.take_block.new.into)
    (sym (continued_at c.args.self.now c.in-Some.block c.args.more.now c.push_slice.new.self c.args.whole (search rules) (search rules) c.in_ok-push_slice-in-Some.ensures.ok))
    (rw c.replace.ensures.after at c.take_block.ensures.prefix)
