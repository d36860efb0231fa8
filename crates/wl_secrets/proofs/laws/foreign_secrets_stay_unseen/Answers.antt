use Rattle.wl_secrets.proofs.HiddenTokens.{foreign_unseen}
use Rattle.wl_secrets.proofs.laws.foreign_secrets_stay_unseen.Goals as goal

pub returns : goal.returns
returns c = foreign_unseen
