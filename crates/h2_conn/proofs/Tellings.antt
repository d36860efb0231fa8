-- What a frame told says what came of the live streams.
use Rattle.std.proofs.Common.{◌≡◌, ℕ, ◌+◌, ◌≤◌, ◌∙◌, Bool, true, false, cond, nat_lt, List, [], ◌∷◌, ◌++◌, Option, Some, None, refl, sym, ap, arith}
use Rattle.std.proofs.lemmas.Bool.{ltb-true}
use Rattle.h2_conn.proofs.Common.{Reset, Frame, ConnFault, Happening, State, is_local_closed, with_remote_closed, Outcome, goes, fails, with_control_frame, without_live_stream, request_ends, peer}
use Rattle.h2_conn.specs.declared.happening.Happening.TheVariants as happening
use Rattle.h2_conn.specs.declared.streams.Stream.{Stream}
use Rattle.h2_conn.specs.Streams.{without}
use Rattle.h2_conn.specs.Telling.{after_request, streams_told, TellsStreams}
use Rattle.h2_conn.proofs.Walk.{at_cond, Rows, Windows, Any, any_open, are_numbered, walk}

-- by what was live before
data Tells (last : ℕ) (before : List Stream) : Outcome → Type 0 where
  tells : (q : State) (told : Option Happening) → q.streams ≡ streams_told told before → last ≤ q.last_stream_id → Tells last before (goes q told)
  fell : (control : List ℕ) (f : ConnFault) → Tells last before (fails control f)

-- on the way no stream comes or goes
abbrev Still : ℕ → List Stream → State → Type 0
Still last before q = (q.streams ≡ before) × (last ≤ q.last_stream_id)

-- a request ends
ended_streams : (n : ℕ) (q : State) → (request_ends n q).streams ≡ after_request n q.streams
unfolding request_ends without_live_stream
ended_streams n q = go (is_local_closed n q.streams)
  where
    go : (b : Bool) → (cond b (without_live_stream n q) (record q { streams = with_remote_closed n q.streams })).streams ≡ cond b (without n q.streams) (with_remote_closed n q.streams)
    go true = refl
    go false = refl

ended_last : (last n : ℕ) (q : State) → last ≤ q.last_stream_id → last ≤ (request_ends n q).last_stream_id
unfolding request_ends without_live_stream
ended_last last n q h = at_cond (λ (r : State). last ≤ r.last_stream_id) (is_local_closed n q.streams) (without_live_stream n q) (record q { streams = with_remote_closed n q.streams }) h h

ends_with : (last : ℕ) (before : List Stream) (q : State) (n : ℕ) (told : Happening) → streams_told (Some told) before ≡ after_request n before → Still last before q → Tells last before (goes (request_ends n q) (Some told))
ends_with last before q n told is h = tells (request_ends n q) (Some told) (ended_streams n q ∙ (ap (after_request n) h.0 ∙ sym is)) (ended_last last n q h.1)

goes_with : (last : ℕ) (before : List Stream) (q : State) (n : ℕ) → Still last before q → Tells last before (goes (without_live_stream n q) (Some (happening.Gone n)))
unfolding without_live_stream
goes_with last before q n h = tells (without_live_stream n q) (Some (happening.Gone n)) (ap (without n) h.0) h.1

above : (last n : ℕ) (q : State) → nat_lt q.last_stream_id n ≡ true → last ≤ q.last_stream_id → last ≤ n
above last n q e h = omega (arith, ltb-true q.last_stream_id n e, h)

rows : (last : ℕ) (before : List Stream) → Rows Any Any Any (Still last before) (Tells last before)
rows last before = record {
  root = tt;
  low = λ n own. tt;
  counts = λ q first settings empty rapid h. h;
  goaway = λ q h. h;
  decoder = λ q d h. h;
  block = λ q block own h. h;
  pong = λ q word h. h;
  grant = λ q n size low small h. h;
  falls = λ q why h. fell _ _;
  quiet = λ q h. tells q None h.0 h.1;
  opened = λ q u headers own e h. tells _ (Some (happening.Head u.stream headers u.ended)) (ap (λ (ss : List Stream). ss ++ record { number = u.stream; remote_closed = u.ended; local_closed = false } ∷ []) h.0) (above last u.stream q e h.1);
  refused = λ q u own e h. tells _ None h.0 (above last u.stream q e h.1);
  content = λ q n bytes live h. tells q (Some (happening.Body n bytes false)) h.0 h.1;
  last = λ q n bytes live h. ends_with last before q n (happening.Body n bytes true) refl h;
  ended = λ q n live h. ends_with last before q n (happening.End n) refl h;
  gone = λ q n live h. goes_with last before q n h;
  reset = λ q n code low small live h. goes_with last before (with_control_frame n (Reset code) q) n h;
}

windows : (last : ℕ) (before : List Stream) → Windows (Still last before) (Tells last before)
windows last before = record {
  ack = λ q h. h;
  shrunk = λ q h. h;
  started = λ q value o e h. h;
  stepped = λ q n step o e h. tells _ None h.0 h.1;
}

tells_peer : (q : State) (f : Frame) → Tells q.last_stream_id q.streams (peer q f)
tells_peer q f =
    walk Any Any Any (Still q.last_stream_id q.streams) (Tells q.last_stream_id q.streams) (rows q.last_stream_id q.streams) (windows q.last_stream_id q.streams)
    q f (are_numbered Any Any Any q.open_block f.stream f.body tt (λ size. tt) tt (any_open q.open_block)) (refl, omega arith)

told_streams : (q new : State) (told : Option Happening) (o : Outcome) → Tells q.last_stream_id q.streams o → o ≡ goes new told → TellsStreams q told new
told_streams q new told _ (tells r t e le) is =
    let state : r ≡ new = cc is in
    let same : t ≡ told = cc is in
    rw (← state, ← same) (record { streams = e; last = le })
told_streams q new told _ (fell control f) is = absurd (cc is)

pub frame_tells : (q new : State) (told : Option Happening) (f : Frame) → peer q f ≡ goes new told → TellsStreams q told new
frame_tells q new told f is = told_streams q new told (peer q f) (tells_peer q f) is
