-- The control frames that a connection queues, over each frame of the peer.
use Rattle.std.proofs.Common.{◌≡◌, ℕ, ◌+◌, ◌<◌, ◌≤◌, ◌^◌, ◌==◌, Bool, true, false, cond, nat_lt, pos, ◌+ℤ◌, int_lt, [], ◌∷◌, ◌++◌, length, Option, Some, None, Result, Ok, Err, refl, arith}
use Rattle.h2_wire.specs.declared.limit.TheConstants.{MAX_WINDOW_SIZE}
use Rattle.h2_wire.specs.declared.error_code.TheConstants.{REFUSED_STREAM}
use Rattle.h2_wire.specs.declared.setting.TheConstants as setting
use Rattle.wl_heard.proofs.Common.{HpackFault, Body, Bytes, Headers, Priority, Reset, Settings, SettingsAck, PushPromise, Ping, GoAway, WindowUpdate, Continuation, Unknown, Frame, frame_encoding, Out, without_stream, with_control, State, OpenBlock, is_local_closed, with_remote_closed, Outcome, goes, fails, with_control_frame, without_live_stream, request_ends, peer, FitsBody, Sound, at_cond, Rows, Windows, walk, IsControl}
use Rattle.hpack.specs.declared.fault.HpackFault.TheVariants as hpack
use Rattle.h2_flow.specs.declared.overflow.Overflow.{Overflow}
use Rattle.h2_flow.specs.Outboxes.{with_stream, with_size_update, credit_of, with_step, with_connection_step, with_stream_step, first_over, with_initial, set_initial_window}
use Rattle.h2_flow.specs.Windows.{window_of}
use Rattle.h2_conn.specs.declared.fault.ConnCause.{ConnCause}
use Rattle.h2_conn.specs.declared.fault.ConnCause.TheVariants as cause
use Rattle.h2_conn.specs.Faults.{hpack_code, code_of, failure}
use Rattle.h2_conn.specs.Kinds.{Fits}
use Rattle.h2_conn.specs.Sound.{IsLow}
use Rattle.h2_conn.specs.Conns.{goaway}
use Rattle.h2_conn.proofs.Walk.{IsNumbered}
use Rattle.h2_conn.proofs.Sounds.{IsLowNumber, low_open}
use Rattle.wl_heard.proofs.WholeFrames.{Holds, holds_both, holds_spelled, holds_ping}

-- ---- one frame more

-- what is queued are control frames, and the last stream has 31 bits
pub record Queued (q : State) : Type 0 where
  pub control : Holds IsControl q.outbox.control
  pub last : q.last_stream_id < 2 ^ 31

q_put : (n : ℕ) (body : Body) (q : State) → Holds IsControl (frame_encoding (record { stream = n; body = body })) → Queued q → Queued (with_control_frame n body q)
unfolding with_control
q_put n body q one h = record { control = holds_both q.outbox.control (frame_encoding (record { stream = n; body = body })) h.control one; last = h.last }

pub q_reset : (n code : ℕ) (q : State) → n < 2 ^ 31 → code < 2 ^ 32 → Queued q → Queued (with_control_frame n (Reset code) q)
q_reset n code q low small h = q_put n (Reset code) q (holds_spelled (record { stream = n; body = Reset code }) tt (omega arith) small low) h

q_step : (n step : ℕ) (q : State) → n < 2 ^ 31 → step < 2 ^ 31 → Queued q → Queued (with_control_frame n (WindowUpdate step) q)
q_step n step q low small h = q_put n (WindowUpdate step) q (holds_spelled (record { stream = n; body = WindowUpdate step }) tt (omega arith) small low) h

q_ack : (q : State) → Queued q → Queued (with_control_frame 0 SettingsAck q)
q_ack q h = q_put 0 SettingsAck q (holds_spelled (record { stream = 0; body = SettingsAck }) tt (omega arith) tt (omega arith)) h

q_pong : (word : ℕ) (q : State) → Queued q → Queued (with_control_frame 0 (Ping true word) q)
q_pong word q h = q_put 0 (Ping true word) q (holds_ping 0 word true tt (omega arith)) h

-- ---- steps that several rows take

pub q_closed : (n : ℕ) (q : State) → Queued q → Queued (without_live_stream n q)
unfolding without_live_stream without_stream
q_closed n q h = record { control = h.control; last = h.last }

q_request : (n : ℕ) (q : State) → Queued q → Queued (request_ends n q)
unfolding request_ends
q_request n q h = at_cond Queued (is_local_closed n q.streams) (without_live_stream n q) (record q { streams = with_remote_closed n q.streams }) (q_closed n q h) (record { control = h.control; last = h.last })

-- ---- outcomes

-- a connection that goes on has such a queue; of one that fails such frames are left, and its GOAWAY is one more
abbrev pub Queues : Outcome → Type 0
Queues (goes q told) = Queued q
Queues (fails control f) = Holds IsControl (control ++ goaway f)

hpack_small : (f : HpackFault) → hpack_code f < 2 ^ 32
hpack_small hpack.Memory = omega arith
hpack_small hpack.Index = omega arith
hpack_small hpack.Integer = omega arith
hpack_small hpack.Truncated = omega arith
hpack_small hpack.Padding = omega arith
hpack_small hpack.SizeUpdate = omega arith
hpack_small hpack.ListTooLong = omega arith

small_cond : (b : Bool) (x y : ℕ) → x < 2 ^ 32 → y < 2 ^ 32 → cond b x y < 2 ^ 32
small_cond true x y h k = h
small_cond false x y h k = k

code_small : (why : ConnCause) → code_of why < 2 ^ 32
code_small (cause.Preface at) = omega arith
code_small (cause.TooLarge length) = omega arith
code_small (cause.WrongLength kind length) = omega arith
code_small cause.BadPadding = omega arith
code_small cause.FirstFrame = omega arith
code_small cause.BlockOpen = omega arith
code_small cause.NoBlock = omega arith
code_small cause.StreamZero = omega arith
code_small cause.Push = omega arith
code_small cause.ZeroStep = omega arith
code_small cause.Overflow = omega arith
code_small cause.Idle = omega arith
code_small cause.EvenStream = omega arith
code_small cause.BlockTooLong = omega arith
code_small (cause.Hpack f) = hpack_small f
code_small (cause.Setting id) = small_cond (id == setting.INITIAL_WINDOW_SIZE) _ _ (omega arith) (omega arith)
code_small (cause.Flood kind count) = omega arith

pub q_fails : (q : State) (why : ConnCause) → Queued q → Holds IsControl (q.outbox.control ++ goaway (failure q why))
q_fails q why h =
    let f = failure q why in
    holds_both q.outbox.control (goaway f) h.control (holds_spelled (record { stream = 0; body = GoAway f.last_stream f.code }) tt (omega arith) (h.last, code_small why) (omega arith))

-- ---- windows

-- a step moves a window, or nothing else
abbrev pub KeepsQueue : Out → Result Out Overflow → Type 0
KeepsQueue o (Ok new) = new.control ≡ o.control
KeepsQueue o (Err e) = Unit {0}

keeps_cond : (o : Out) (b : Bool) (x y : Result Out Overflow) → KeepsQueue o x → KeepsQueue o y → KeepsQueue o (cond b x y)
keeps_cond o true x y h k = h
keeps_cond o false x y h k = k

pub step_keeps : (n step : ℕ) (o : Out) → KeepsQueue o (with_step n step o)
unfolding with_step with_connection_step with_stream_step
step_keeps n step o =
    keeps_cond o (n == 0) (with_connection_step step o) (with_stream_step n step o)
    (keeps_cond o (nat_lt MAX_WINDOW_SIZE (o.flow.connection_window + step)) (Err (record { stream = 0 })) _ tt refl)
    (keeps_cond o (int_lt (pos MAX_WINDOW_SIZE) (window_of o.flow.initial_window_size (credit_of n o.streams) +ℤ pos step)) (Err (record { stream = n })) _ tt refl)

set_keeps : (value : ℕ) (o : Out) (over : Option ℕ) → KeepsQueue o (with_initial value o over)
set_keeps value o (Some n) = tt
set_keeps value o None = refl

initial_keeps : (value : ℕ) (o : Out) → KeepsQueue o (set_initial_window value o)
unfolding set_initial_window
initial_keeps value o = set_keeps value o (first_over value o.streams)

q_moved : (q : State) (r : Result Out Overflow) (o : Out) → KeepsQueue q.outbox r → r ≡ Ok o → Queued q → Queued (record q { outbox = o })
q_moved q r o keeps e h = let same : o.control ≡ q.outbox.control = rw e at keeps in record { control = rw same h.control; last = h.last }

-- ---- the table

abbrev pub FitsFrame : ℕ → Type 0
FitsFrame size = size ≤ 16384

pub small_step : (size : ℕ) → size ≤ 16384 → size < 2 ^ 31
small_step size small = omega (arith, small)

q_shrunk : (q : State) → Queued q → Queued (record q { outbox = with_size_update q.outbox })
unfolding with_size_update
q_shrunk q h = record { control = h.control; last = h.last }

q_opened : (q : State) (u : OpenBlock) → u.stream < 2 ^ 31 → Queued q → Queued (record q { last_stream_id = u.stream; streams = q.streams ++ record { number = u.stream; remote_closed = u.ended; local_closed = false } ∷ []; outbox = with_stream u.stream q.outbox })
unfolding with_stream
q_opened q u low h = record { control = h.control; last = low }

rows : Rows IsLowNumber FitsFrame IsLowNumber Queued Queues
rows = record {
  root = omega arith;
  low = λ n own. own;
  counts = λ q first settings empty rapid h. record { control = h.control; last = h.last };
  goaway = λ q h. record { control = h.control; last = h.last };
  decoder = λ q d h. record { control = h.control; last = h.last };
  block = λ q block own h. record { control = h.control; last = h.last };
  pong = λ q word h. q_pong word q h;
  grant = λ q n size low small h. q_step n size q low (small_step size small) h;
  falls = λ q why h. q_fails q why h;
  quiet = λ q h. h;
  opened = λ q u headers own e h. q_opened q u own h;
  refused = λ q u own e h. q_reset u.stream REFUSED_STREAM (record q { last_stream_id = u.stream }) own (omega arith) (record { control = h.control; last = own });
  content = λ q n bytes live h. h;
  last = λ q n bytes live h. q_request n q h;
  ended = λ q n live h. q_request n q h;
  gone = λ q n live h. q_closed n q h;
  reset = λ q n code low small live h. q_closed n (with_control_frame n (Reset code) q) (q_reset n code q low small h);
}

windows : Windows Queued Queues
windows = record {
  ack = λ q h. q_ack q h;
  shrunk = λ q h. q_shrunk q h;
  started = λ q value o e h. q_moved q (set_initial_window value q.outbox) o (initial_keeps value q.outbox) e h;
  stepped = λ q n step o e h. q_moved q (with_step n step q.outbox) o (step_keeps n step q.outbox) e h;
}

numbered : (block : Option OpenBlock) (n : ℕ) (body : Body) → n < 2 ^ 31 → FitsBody body → IsLow block → IsNumbered IsLowNumber FitsFrame IsLowNumber block n body
numbered block n (Bytes bytes size ended) low fits there = (low, fits.1)
numbered block n (Headers bytes ended whole) low fits there = low
numbered block n Priority low fits there = tt
numbered block n (Reset code) low fits there = tt
numbered block n (Settings pairs) low fits there = tt
numbered block n SettingsAck low fits there = tt
numbered block n PushPromise low fits there = tt
numbered block n (Ping ack word) low fits there = tt
numbered block n (GoAway last code) low fits there = tt
numbered block n (WindowUpdate step) low fits there = low
numbered block n (Continuation bytes whole) low fits there = low_open block there
numbered block n (Unknown kind) low fits there = tt

pub frame_queues : (q : State) (f : Frame) → Fits f → Sound q → Queued q → Queues (peer q f)
frame_queues q f fits sound h =
    walk IsLowNumber FitsFrame IsLowNumber Queued Queues rows windows q f (numbered q.open_block f.stream f.body fits.0 fits.1 sound.low) h
