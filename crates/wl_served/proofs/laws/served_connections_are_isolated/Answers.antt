use Rattle.wl_served.proofs.Isolation.{served_are_isolated}
use Rattle.wl_served.proofs.laws.served_connections_are_isolated.Goals as goal

pub returns : goal.returns
returns c = served_are_isolated c.turns_agree.ensures.alike
