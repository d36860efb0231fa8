use Rattle.wl_heard.proofs.ClientMessages.{clients_hear_sessions}
use Rattle.wl_heard.proofs.laws.clients_hear_sessions.Goals as goal

pub returns : goal.returns
returns c = clients_hear_sessions
