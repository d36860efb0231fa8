use Rattle.std.proofs.Common.{vec_len}
use Rattle.wl_store.proofs.tickets.abandon_all.Given as goal

abbrev pub decreases-rest : goal.decreases-rest
decreases-rest l = vec_len l.items
