use Rattle.wl_edge_real_tests.proofs.OpenLinks.{still_open}
use Rattle.wl_edge_real_tests.proofs.many_tests.accept_again.Goals as goal

pub returns : goal.returns
returns c = still_open _ _ _ c.accept.result c.accept.ensures.gives.tells c.requires
