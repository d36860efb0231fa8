-- The live streams of a connection.
use Rattle.std.specs.Prelude.{ℕ, ◌==◌, ◌&&◌, Bool, true, not, if◌then◌else◌, List, map, filter}
use Rattle.std.specs.List.{list_any}
use Rattle.h2_conn.specs.declared.streams.Stream.{Stream}

abbrev pub is_live : ℕ → List Stream → Bool
is_live n streams = list_any (λ s. s.number == n) streams

-- the stream is live and its request has ended: half-closed (remote) in RFC 9113, section 5.1
abbrev pub is_remote_closed : ℕ → List Stream → Bool
is_remote_closed n streams = list_any (λ s. s.number == n && s.remote_closed) streams

-- the stream is live and its END_STREAM was written: half-closed (local)
abbrev pub is_local_closed : ℕ → List Stream → Bool
is_local_closed n streams = list_any (λ s. s.number == n && s.local_closed) streams

abbrev pub without : ℕ → List Stream → List Stream
without n streams = filter (λ s. not (s.number == n)) streams

abbrev pub remote_closed_if : ℕ → Stream → Stream
remote_closed_if n s = if s.number == n then record s { remote_closed = true } else s

abbrev pub local_closed_if : ℕ → Stream → Stream
local_closed_if n s = if s.number == n then record s { local_closed = true } else s

-- the request of this stream has ended
abbrev pub with_remote_closed : ℕ → List Stream → List Stream
with_remote_closed n streams = map (remote_closed_if n) streams

-- the END_STREAM of this stream was written
abbrev pub with_local_closed : ℕ → List Stream → List Stream
with_local_closed n streams = map (local_closed_if n) streams
