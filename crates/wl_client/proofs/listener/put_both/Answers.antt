use Rattle.list_laws.proofs.Fronts.{gains_before, gains_after}
use Rattle.wl_client.proofs.listener.put_both.Goals as goal

pub returns-in_err-put_credit-clause-prefix : goal.returns-in_err-put_credit-clause-prefix
returns-in_err-put_credit-clause-prefix c = gains_before _ _ c.args.out.now c.put_credit.new.out c.put_credit.ensures.prefix

pub returns-clause-prefix : goal.returns-clause-prefix
returns-clause-prefix c = gains_after _ _ c.args.out.now c.put_credit.new.out c.put_credit-2.new.out c.in_ok-put_credit.ensures.ok c.put_credit-2.ensures.prefix
