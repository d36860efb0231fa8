-- What a happening says of the live streams.
use Rattle.std.specs.Prelude.{◌≡◌, ℕ, nat_lt, true, false, List, Option, Some, None}
use Rattle.h2_frame.specs.declared.frame.Frame.{Frame}
use Rattle.h2_conn.specs.declared.happening.Happening.{Happening}
use Rattle.h2_conn.specs.declared.happening.Happening.TheVariants as happening
use Rattle.h2_conn.specs.declared.phase.Phase.{Phase}
use Rattle.h2_conn.specs.declared.phase.Phase.TheVariants.{Open, Failed, OutOfMemory}
use Rattle.h2_conn.specs.declared.state.State.{State}
use Rattle.h2_conn.specs.declared.streams.Stream.{Stream}
use Rattle.h2_conn.specs.Streams.{is_live}
use Rattle.h2_conn.specs.Peer.{Outcome, goes, fails, peer}

-- A head is of a stream that was idle, above all that were opened, and is live from then on. All else is of a stream that
-- was live, and what is gone is live no more.
abbrev pub Names : ℕ → List Stream → Happening → List Stream → Type 0
Names last_stream_id before (happening.Head stream headers ended) after = (nat_lt last_stream_id stream ≡ true) × (is_live stream after ≡ true)
Names last_stream_id before (happening.Body stream bytes ended) after = is_live stream before ≡ true
Names last_stream_id before (happening.End stream) after = is_live stream before ≡ true
Names last_stream_id before (happening.Gone stream) after = (is_live stream before ≡ true) × (is_live stream after ≡ false)

abbrev pub NamesTold : State → Option Happening → State → Type 0
NamesTold old None new = Unit {0}
NamesTold old (Some told) new = Names old.last_stream_id old.streams told new.streams

-- so it is with what a frame told, if it told something
abbrev pub NamesAfter : State → Outcome → Type 0
NamesAfter old (goes new told) = NamesTold old told new
NamesAfter old (fails control f) = Unit {0}

-- What the table's row for this frame tells on a connection that goes on; one that does not tells nothing.
abbrev pub NamesOn : Phase → Frame → Type 0
NamesOn (Open q) f = NamesAfter q (peer q f)
NamesOn (Failed fault left totals) f = Unit {0}
NamesOn (OutOfMemory totals) f = Unit {0}
