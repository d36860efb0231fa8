use Rattle.std.proofs.Common.{rules}
use Rattle.hpack.specs.Writing.{block_bytes}
use Rattle.h2_conn.proofs.Sounds.{s_finished_on}
use Rattle.h2_conn.proofs.conn.Conn.finish.Goals as goal

pub invariant_of-self-in_ok-finish-3 : goal.invariant_of-self-in_ok-finish-3
invariant_of-self-in_ok-finish-3 c = rw c.in_ok-finish.ensures (s_finished_on c.args.stream (block_bytes c.args.headers.now) c.in-Some.state (search rules))
