use Rattle.std.proofs.Common.{◌≡◌, ◌++◌, take, drop}
use Rattle.h2_conn.specs.Streams.{with_remote_closed}
use Rattle.h2_conn.proofs.streams.close_remote_in.Given as goal

abbrev pub invariant-loop-stream : goal.invariant-loop-stream
invariant-loop-stream l = take l.stream-index l.streams ++ with_remote_closed l.number (drop l.stream-index l.streams) ≡ with_remote_closed l.number l.initial.streams
