use Rattle.wl_selector.specs.Selectors.{sorted_texts}
use Rattle.wl_manager.proofs.Vouchers.{found_vouched}
use Rattle.wl_manager.proofs.manager.Manager.token.Goals as goal

pub returns-clause-vouched : goal.returns-clause-vouched
returns-clause-vouched g c =
    found_vouched g.V.Voucher.token c.self.inside.tokens c.args.ask.now (sorted_texts c.args.audience.now) c.renew_before-renew_before.result c.args.now c.in_ok-token.token c.self.invariant c.in_ok-token.ensures.found
