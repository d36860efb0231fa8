use Rattle.std.proofs.Common.{rules}
use Rattle.h2_conn.proofs.Sounds.{s_reset_by}
use Rattle.h2_conn.proofs.conn.Conn.reset.Goals as goal

pub invariant_of-self-in_ok-reset-3 : goal.invariant_of-self-in_ok-reset-3
invariant_of-self-in_ok-reset-3 c = rw c.in_ok-reset.ensures (s_reset_by c.args.stream c.args.code c.in-Some.state (search rules))
