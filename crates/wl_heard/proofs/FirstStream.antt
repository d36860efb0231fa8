-- A connection on which header blocks come on the call's stream alone opens no other stream.
use Rattle.std.proofs.Common.{◌≡◌, Option, ℕ, ◌≤◌, arith}
use Rattle.wl_heard.proofs.Common.{Body, Bytes, Headers, Priority, Reset, Settings, SettingsAck, PushPromise, Ping, GoAway, WindowUpdate, Continuation, Unknown, Frame, State, OpenBlock, is_local_closed, with_remote_closed, Outcome, goes, fails, with_control_frame, without_live_stream, request_ends, peer, at_cond, Rows, Windows, walk, call_stream, IsOfOneCall}
use Rattle.h2_conn.proofs.Walk.{IsNumbered, Any}
use Rattle.wl_heard.specs.Calls.{IsCallBody}

abbrev pub IsFirst : State → Type 0
IsFirst q = q.last_stream_id ≤ call_stream

abbrev pub Opens : Outcome → Type 0
Opens (goes q told) = IsFirst q
Opens (fails control f) = Unit {0}

-- ---- the table

o_closed : (n : ℕ) (q : State) → IsFirst q → IsFirst (without_live_stream n q)
unfolding without_live_stream
o_closed n q h = h

o_request : (n : ℕ) (q : State) → IsFirst q → IsFirst (request_ends n q)
unfolding request_ends
o_request n q h = at_cond IsFirst (is_local_closed n q.streams) (without_live_stream n q) (record q { streams = with_remote_closed n q.streams }) (o_closed n q h) h

abbrev pub IsCall : ℕ → Type 0
IsCall n = n ≡ call_stream

first_of : (n : ℕ) → n ≡ call_stream → n ≤ call_stream
first_of n own = omega (arith, own)

rows : Rows Any Any IsCall IsFirst Opens
rows = record {
  root = tt;
  low = λ n own. tt;
  counts = λ q first settings empty rapid h. h;
  goaway = λ q h. h;
  decoder = λ q d h. h;
  block = λ q block own h. h;
  pong = λ q word h. h;
  grant = λ q n size low small h. h;
  falls = λ q why h. tt;
  quiet = λ q h. h;
  opened = λ q u headers own e h. first_of u.stream own;
  refused = λ q u own e h. first_of u.stream own;
  content = λ q n bytes live h. h;
  last = λ q n bytes live h. o_request n q h;
  ended = λ q n live h. o_request n q h;
  gone = λ q n live h. o_closed n q h;
  reset = λ q n code low small live h. o_closed n (with_control_frame n (Reset code) q) h;
}

windows : Windows IsFirst Opens
windows = record { ack = λ q h. h; shrunk = λ q h. h; started = λ q value o e h. h; stepped = λ q n step o e h. h }

numbered : (block : Option OpenBlock) (n : ℕ) (body : Body) → IsCallBody n body → IsNumbered Any Any IsCall block n body
numbered block n (Bytes bytes size ended) own = (tt, tt)
numbered block n (Headers bytes ended whole) own = own
numbered block n Priority own = tt
numbered block n (Reset code) own = tt
numbered block n (Settings pairs) own = tt
numbered block n SettingsAck own = tt
numbered block n PushPromise own = tt
numbered block n (Ping ack word) own = tt
numbered block n (GoAway last code) own = tt
numbered block n (WindowUpdate step) own = tt
numbered block n (Continuation bytes whole) own = absurd own
numbered block n (Unknown kind) own = tt

pub frame_opens : (q : State) (f : Frame) → IsOfOneCall f → IsFirst q → Opens (peer q f)
frame_opens q f own h = walk Any Any IsCall IsFirst Opens rows windows q f (numbered q.open_block f.stream f.body own) h
