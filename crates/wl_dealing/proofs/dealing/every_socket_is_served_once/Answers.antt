use Rattle.wl_dealing.proofs.Numbered.{served_once}
use Rattle.wl_dealing.proofs.dealing.every_socket_is_served_once.Goals as goal

pub returns : goal.returns
returns c = served_once
