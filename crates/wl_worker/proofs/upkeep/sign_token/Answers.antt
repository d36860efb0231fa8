use Rattle.wl_worker.proofs.SignerAsks.{token_asked, token_faults}
use Rattle.wl_worker.proofs.upkeep.sign_token.Goals as goal

pub returns-clause-told : goal.returns-clause-told
returns-clause-told g c = token_asked c.args.ask _ _ _ _ _ c.sign-letter.ensures

pub returns-clause-faults : goal.returns-clause-faults
returns-clause-faults g c = token_faults c.args.ask _ _ _ _ _ c.sign-letter.ensures
