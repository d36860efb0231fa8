-- What a frame does to the live streams, by what it told.
use Rattle.std.specs.Prelude.{◌≡◌, ℕ, ◌≤◌, false, if◌then◌else◌, List, [], ◌∷◌, ◌++◌, Option, Some, None}
use Rattle.h2_conn.specs.declared.happening.Happening.{Happening}
use Rattle.h2_conn.specs.declared.happening.Happening.TheVariants as happening
use Rattle.h2_conn.specs.declared.state.State.{State}
use Rattle.h2_conn.specs.declared.streams.Stream.{Stream}
use Rattle.h2_conn.specs.Streams.{is_local_closed, without, with_remote_closed}

-- RFC 9113, section 5.1: a request ends, and its stream closes if its END_STREAM was written
abbrev pub after_request : ℕ → List Stream → List Stream
after_request n streams = if is_local_closed n streams then without n streams else with_remote_closed n streams

-- A head opens its stream; a request that ends may close its stream; what is gone is live no more; else no stream comes or goes.
abbrev pub streams_told : Option Happening → List Stream → List Stream
streams_told None streams = streams
streams_told (Some (happening.Head n headers ended)) streams = streams ++ record { number = n; remote_closed = ended; local_closed = false } ∷ []
streams_told (Some (happening.Body n bytes ended)) streams = if ended then after_request n streams else streams
streams_told (Some (happening.End n)) streams = after_request n streams
streams_told (Some (happening.Gone n)) streams = without n streams

-- and the last stream does not fall
pub record TellsStreams (old : State) (told : Option Happening) (new : State) : Type 0 where
  pub streams : new.streams ≡ streams_told told old.streams
  pub last : old.last_stream_id ≤ new.last_stream_id
