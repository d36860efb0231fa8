-- Where a frame of the peer has the call's stream reset, no stream is there any more.
use Rattle.std.proofs.Common.{◌≡◌, ◌⊎◌, inl, inr, ℕ, ◌<◌, ◌≤◌, ◌^◌, ◌==◌, true, false, not, nat_lt, List, [], ◌∷◌, filter, Option, Some, None, Result, Ok, sym, subst, ◌∙◌, ◌++◌, arith, eqb-true, eq-eqb}
use Rattle.std.proofs.lemmas.Bool.{cases_Bool, ltb-true}
use Rattle.list_laws.proofs.Results.{ok_is, err_is_no_ok}
use Rattle.h2_wire.specs.declared.error_code.TheConstants.{REFUSED_STREAM}
use Rattle.wl_heard.proofs.Common.{Body, Bytes, Headers, Priority, Reset, Settings, SettingsAck, PushPromise, Ping, GoAway, WindowUpdate, Continuation, Unknown, Frame, frame_encoding, Stream, Out, is_number, without_stream, with_control, State, OpenBlock, is_live, is_local_closed, with_remote_closed, Outcome, goes, fails, with_control_frame, without_live_stream, request_ends, peer, FitsBody, at_cond, Rows, Windows, walk, call_stream, IsOfOneCall}
use Rattle.h2_flow.specs.declared.overflow.Overflow.{Overflow}
use Rattle.h2_flow.specs.Outboxes.{with_stream, with_size_update, with_step, first_over, with_initial, set_initial_window}
use Rattle.h2_conn.specs.Kinds.{Fits}
use Rattle.h2_conn.proofs.Walk.{IsNumbered}
use Rattle.h2_conn.proofs.Sounds.{IsLowNumber}
use Rattle.wl_heard.specs.Calls.{IsCallBody}
use Rattle.wl_heard.proofs.WholeFrames.{Holds, holds_both, holds_spelled, holds_ping}
use Rattle.wl_heard.proofs.OnlyStream.{OnlyOf}
use Rattle.wl_heard.proofs.FirstStream.{IsCall}
use Rattle.wl_heard.proofs.PeerFrames.{IsNone}
use Rattle.wl_heard.proofs.Queues.{KeepsQueue, step_keeps, FitsFrame, small_step}

-- ---- what is queued

-- control frames with which a call goes on
abbrev pub IsMildBody : ℕ → Body → Type 0
IsMildBody n (Reset code) = n ≡ call_stream → ⊥
IsMildBody n SettingsAck = Unit {0}
IsMildBody n (Ping true word) = Unit {0}
IsMildBody n (WindowUpdate step) = Unit {0}
IsMildBody n body = ⊥

abbrev pub IsMild : Frame → Type 0
IsMild f = IsMildBody f.stream f.body

abbrev pub IsAny : Stream → Type 0
IsAny s = Unit {0}

-- such frames are queued
pub record Tame (q : State) : Type 0 where
  pub mild : Holds IsMild q.outbox.control
  pub alone : OnlyOf IsAny q.outbox.streams
  pub came : is_live call_stream q.streams ≡ true → call_stream ≤ q.last_stream_id
  pub young : q.last_stream_id < call_stream → OnlyOf IsNone q.outbox.streams

-- or no stream is there any more
abbrev pub CleanState : State → Type 0
CleanState q = Holds IsMild q.outbox.control ⊎ (OnlyOf IsNone q.outbox.streams × (call_stream ≤ q.last_stream_id))

abbrev pub Clean : Outcome → Type 0
Clean (goes q told) = CleanState q
Clean (fails control f) = Unit {0}

-- ---- steps that several rows take

t_put : (n : ℕ) (body : Body) (q : State) → Holds IsMild (frame_encoding (record { stream = n; body = body })) → Tame q → Tame (with_control_frame n body q)
unfolding with_control
t_put n body q one h = record { mild = holds_both q.outbox.control (frame_encoding (record { stream = n; body = body })) h.mild one; alone = h.alone; came = h.came; young = h.young }

t_step : (n step : ℕ) (q : State) → n < 2 ^ 31 → step < 2 ^ 31 → Tame q → Tame (with_control_frame n (WindowUpdate step) q)
t_step n step q low small h = t_put n (WindowUpdate step) q (holds_spelled (record { stream = n; body = WindowUpdate step }) tt (omega arith) small low) h

c_closed : (n : ℕ) (q : State) → Tame q → CleanState (without_live_stream n q)
unfolding without_live_stream without_stream
c_closed n q h = inl h.mild

c_request : (n : ℕ) (q : State) → Tame q → CleanState (request_ends n q)
unfolding request_ends
c_request n q h = at_cond CleanState (is_local_closed n q.streams) (without_live_stream n q) (record q { streams = with_remote_closed n q.streams }) (c_closed n q h) (inl h.mild)

-- the call's stream is gone
pub none_left : (n : ℕ) (ss : List Stream) → n ≡ call_stream → OnlyOf IsAny ss → OnlyOf IsNone (filter (λ (s : Stream). not (is_number n s)) ss)
none_left n [] own h = tt
none_left n (s ∷ []) own h = rw (eq-eqb s.number n (h.0 ∙ sym own)) tt
none_left n (s ∷ t ∷ ss) own h = absurd h

c_gone : (n code : ℕ) (q : State) → n ≡ call_stream → is_live n q.streams ≡ true → Tame q → CleanState (without_live_stream n (with_control_frame n (Reset code) q))
unfolding without_live_stream without_stream with_control
c_gone n code q own live h = inr (none_left n q.outbox.streams own h.alone, h.came (rw (sym own) live))

c_other : (n code : ℕ) (q : State) → (n ≡ call_stream → ⊥) → n < 2 ^ 31 → code < 2 ^ 32 → Tame q → CleanState (without_live_stream n (with_control_frame n (Reset code) q))
c_other n code q other low small h = c_closed n (with_control_frame n (Reset code) q) (t_put n (Reset code) q (holds_spelled (record { stream = n; body = Reset code }) other (omega arith) small low) h)

-- ---- the table

t_shrunk : (q : State) → Tame q → Tame (record q { outbox = with_size_update q.outbox })
unfolding with_size_update
t_shrunk q h = record { mild = h.mild; alone = h.alone; came = h.came; young = h.young }

t_started : (q : State) (value : ℕ) (o : Out) (over : Option ℕ) → with_initial value q.outbox over ≡ Ok o → Tame q → Tame (record q { outbox = o })
t_started q value o (Some n) e h = err_is_no_ok e
t_started q value o None e h = subst (λ (x : Out). Tame (record q { outbox = x })) (ok_is e) (record { mild = h.mild; alone = h.alone; came = h.came; young = h.young })

t_initial : (q : State) (value : ℕ) (o : Out) → set_initial_window value q.outbox ≡ Ok o → Tame q → Tame (record q { outbox = o })
unfolding set_initial_window
t_initial q value o e h = t_started q value o (first_over value q.outbox.streams) e h

c_stepped : (q : State) (r : Result Out Overflow) (o : Out) → KeepsQueue q.outbox r → r ≡ Ok o → Tame q → CleanState (record q { outbox = o })
c_stepped q r o keeps e h = let same : o.control ≡ q.outbox.control = rw e at keeps in inl (rw same h.mild)

c_reset : (q : State) (n code : ℕ) → n < 2 ^ 31 → code < 2 ^ 32 → is_live n q.streams ≡ true → Tame q → CleanState (without_live_stream n (with_control_frame n (Reset code) q))
c_reset q n code low small live h =
    elim (cases_Bool (n == call_stream)) [
      | inl here ↦ c_gone n code q (eqb-true n call_stream here) live h
      | inr there ↦ c_other n code q (λ e. absurd (cc (eq-eqb n call_stream e, there))) low small h
    ]

c_opened : (q : State) (u : OpenBlock) → Tame q → CleanState (record q { last_stream_id = u.stream; streams = q.streams ++ record { number = u.stream; remote_closed = u.ended; local_closed = false } ∷ []; outbox = with_stream u.stream q.outbox })
unfolding with_stream
c_opened q u h = inl h.mild

c_refused : (q : State) (u : OpenBlock) → u.stream ≡ call_stream → nat_lt q.last_stream_id u.stream ≡ true → Tame q → CleanState (with_control_frame u.stream (Reset REFUSED_STREAM) (record q { last_stream_id = u.stream }))
unfolding with_control
c_refused q u own higher h =
    let low : q.last_stream_id < u.stream = ltb-true q.last_stream_id u.stream higher in
    inr (h.young (omega (arith, low, own)), omega (arith, own))

low_call : (n : ℕ) → n ≡ call_stream → n < 2 ^ 31
low_call n own = omega (arith, own)

rows : Rows IsLowNumber FitsFrame IsCall Tame Clean
rows = record {
  root = omega arith;
  low = λ n own. low_call n own;
  counts = λ q first settings empty rapid h. record { mild = h.mild; alone = h.alone; came = h.came; young = h.young };
  goaway = λ q h. record { mild = h.mild; alone = h.alone; came = h.came; young = h.young };
  decoder = λ q d h. record { mild = h.mild; alone = h.alone; came = h.came; young = h.young };
  block = λ q block own h. record { mild = h.mild; alone = h.alone; came = h.came; young = h.young };
  pong = λ q word h. t_put 0 (Ping true word) q (holds_ping 0 word true tt (omega arith)) h;
  grant = λ q n size low small h. t_step n size q low (small_step size small) h;
  falls = λ q why h. tt;
  quiet = λ q h. inl h.mild;
  opened = λ q u headers own e h. c_opened q u h;
  refused = λ q u own e h. c_refused q u own e h;
  content = λ q n bytes live h. inl h.mild;
  last = λ q n bytes live h. c_request n q h;
  ended = λ q n live h. c_request n q h;
  gone = λ q n live h. c_closed n q h;
  reset = λ q n code low small live h. c_reset q n code low small live h;
}

windows : Windows Tame Clean
windows = record {
  ack = λ q h. t_put 0 SettingsAck q (holds_spelled (record { stream = 0; body = SettingsAck }) tt (omega arith) tt (omega arith)) h;
  shrunk = λ q h. t_shrunk q h;
  started = λ q value o e h. t_initial q value o e h;
  stepped = λ q n step o e h. c_stepped q (with_step n step q.outbox) o (step_keeps n step q.outbox) e h;
}

numbered : (block : Option OpenBlock) (n : ℕ) (body : Body) → n < 2 ^ 31 → FitsBody body → IsCallBody n body → IsNumbered IsLowNumber FitsFrame IsCall block n body
numbered block n (Bytes bytes size ended) low fits own = (low, fits.1)
numbered block n (Headers bytes ended whole) low fits own = own
numbered block n Priority low fits own = tt
numbered block n (Reset code) low fits own = tt
numbered block n (Settings pairs) low fits own = tt
numbered block n SettingsAck low fits own = tt
numbered block n PushPromise low fits own = tt
numbered block n (Ping ack word) low fits own = tt
numbered block n (GoAway last code) low fits own = tt
numbered block n (WindowUpdate step) low fits own = low
numbered block n (Continuation bytes whole) low fits own = absurd own
numbered block n (Unknown kind) low fits own = tt

pub frame_clean : (q : State) (f : Frame) → Fits f → IsOfOneCall f → Tame q → Clean (peer q f)
frame_clean q f fits own h = walk IsLowNumber FitsFrame IsCall Tame Clean rows windows q f (numbered q.open_block f.stream f.body fits.0 fits.1 own) h
