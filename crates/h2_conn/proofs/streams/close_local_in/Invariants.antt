use Rattle.std.proofs.Common.{◌≡◌, ◌++◌, take, drop}
use Rattle.h2_conn.specs.Streams.{with_local_closed}
use Rattle.h2_conn.proofs.streams.close_local_in.Given as goal

abbrev pub invariant-loop-stream : goal.invariant-loop-stream
invariant-loop-stream l = take l.stream-index l.streams ++ with_local_closed l.number (drop l.stream-index l.streams) ≡ with_local_closed l.number l.initial.streams
