use Rattle.std.proofs.Common.{rules}
use Rattle.hpack.specs.Writing.{block_bytes}
use Rattle.h2_conn.proofs.Sounds.{s_headed_on}
use Rattle.h2_conn.proofs.conn.Conn.head.Goals as goal

pub invariant_of-self-in_ok-head-3 : goal.invariant_of-self-in_ok-head-3
invariant_of-self-in_ok-head-3 c = rw c.in_ok-head.ensures (s_headed_on c.args.stream (block_bytes c.args.headers.now) c.in-Some.state (search rules))
