use Rattle.wl_secrets.proofs.HiddenTokens.{others_unseen}
use Rattle.wl_secrets.proofs.laws.other_sessions_stay_unseen.Goals as goal

pub returns : goal.returns
returns c = others_unseen
