use Rattle.wl_secrets.proofs.HiddenTokens.{foreign_untold}
use Rattle.wl_secrets.proofs.laws.foreign_secrets_stay_untold.Goals as goal

pub returns : goal.returns
returns c = foreign_untold
