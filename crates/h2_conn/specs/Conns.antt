-- What each call of a connection does. `Phase` is the state from which the connection is resumed, failing for good included.
use Rattle.std.specs.Prelude.{◌≡◌, ℕ, ◌==◌, Bool, false, not, ◌&&◌, ◌||◌, if◌then◌else◌, List, [], ◌∷◌, ◌++◌, length, Option, Some, None, Result, Ok, Err, IsOk, IsErr}
use Rattle.wl_octets.specs.declared.memory.Memory.{Memory}
use Rattle.hpack.specs.Tables.{first_table}
use Rattle.hpack.specs.Decoding as decoder
use Rattle.h2_frame.specs.declared.fault.FrameFault.{FrameFault}
use Rattle.h2_frame.specs.declared.frame.Body.TheVariants.{Reset, GoAway}
use Rattle.h2_frame.specs.declared.frame.Frame.{Frame}
use Rattle.h2_frame.specs.Writing.{frame_encoding}
use Rattle.h2_flow.specs.Outboxes as outboxes
use Rattle.h2_flow.specs.Outboxes.{PullResult, pull_of, is_open, with_head, with_message, without_waiting, with_trailers}
use Rattle.h2_conn.specs.declared.fault.ConnFault.{ConnFault}
use Rattle.h2_conn.specs.declared.fault.ConnError.{ConnError}
use Rattle.h2_conn.specs.declared.fault.ConnError.TheVariants as refusal
use Rattle.h2_conn.specs.declared.happening.Happening.{Happening}
use Rattle.h2_conn.specs.declared.phase.Phase.{Phase}
use Rattle.h2_conn.specs.declared.phase.Phase.TheVariants.{Open, Failed, OutOfMemory}
use Rattle.h2_conn.specs.declared.phase.Totals.{Totals}
use Rattle.h2_conn.specs.declared.state.State.{State}
use Rattle.h2_conn.specs.Faults.{failure, cause_of}
use Rattle.h2_conn.specs.Streams.{is_live, is_remote_closed, with_local_closed}
use Rattle.h2_conn.specs.Peer.{Outcome, goes, fails, with_control_frame, without_live_stream, peer}

-- ---- what is asked of a connection

abbrev pub totals_of : State → Totals
totals_of q = record { goaway_received = q.goaway_received; messages_started = q.outbox.flow.begun }

-- the stream is live
abbrev pub is_live_on : Phase → ℕ → Bool
is_live_on (Open q) n = is_live n q.streams
is_live_on (Failed fault left totals) n = false
is_live_on (OutOfMemory totals) n = false

-- how many streams are live
abbrev pub live_on : Phase → ℕ
live_on (Open q) = length q.streams
live_on (Failed fault left totals) = 0
live_on (OutOfMemory totals) = 0

-- the peer sent GOAWAY
abbrev pub is_going : Phase → Bool
is_going (Open q) = q.goaway_received
is_going (Failed fault left totals) = totals.goaway_received
is_going (OutOfMemory totals) = totals.goaway_received

-- how many messages began
abbrev pub begun_on : Phase → ℕ
begun_on (Open q) = q.outbox.flow.begun
begun_on (Failed fault left totals) = totals.messages_started
begun_on (OutOfMemory totals) = totals.messages_started

-- a new connection
abbrev pub new_state : State
new_state = record {
  settings_received = false;
  goaway_received = false;
  last_stream_id = 0;
  streams = [];
  open_block = None;
  settings_count = 0;
  empty_data_count = 0;
  rapid_reset_count = 0;
  decoder = decoder.Good first_table;
  outbox = outboxes.new_outbox;
}

-- ---- a fault

-- RFC 9113, sections 5.4.1 and 6.8: GOAWAY with the last stream and the code
abbrev pub goaway : ConnFault → List ℕ
goaway f = frame_encoding (record { stream = 0; body = GoAway f.last_stream f.code })

-- the queued control frames and GOAWAY are all that is still written
abbrev pub failed_phase : ConnFault → State → Phase
failed_phase f q = Failed f (q.outbox.control ++ goaway f) (totals_of q)

-- where bytes that aren't frames leave a connection, and the fault that it then has: the first one
abbrev pub after_frame_fault : FrameFault → Phase → Phase
after_frame_fault why (Open q) = failed_phase (failure q (cause_of why)) q
after_frame_fault why (Failed fault left totals) = Failed fault left totals
after_frame_fault why (OutOfMemory totals) = OutOfMemory totals

abbrev pub frame_fault_on : FrameFault → Phase → Option ConnFault
frame_fault_on why (Open q) = Some (failure q (cause_of why))
frame_fault_on why (Failed fault left totals) = Some fault
frame_fault_on why (OutOfMemory totals) = None

-- ---- out of memory

-- what is kept of a connection whose memory ran out
abbrev pub out_of_memory : Phase → Phase
out_of_memory (Open q) = OutOfMemory (totals_of q)
out_of_memory (Failed fault left totals) = OutOfMemory totals
out_of_memory (OutOfMemory totals) = OutOfMemory totals

-- The state of a connection that goes on is taken out; until it is put back the connection is out of memory. One that has failed has none to give.
abbrev pub GivesState : Result (Option State) Memory → Phase → Phase → Type 0
GivesState (Ok (Some q)) old new = (old ≡ Open q) × (new ≡ OutOfMemory (totals_of q))
GivesState (Ok None) old new = ((fault : ConnFault) × (left : List ℕ) × (totals : Totals) × (old ≡ Failed fault left totals)) × (new ≡ old)
GivesState (Err e) old new = ((totals : Totals) × (old ≡ OutOfMemory totals)) × (new ≡ old)

-- A call that may answer Memory: a connection that has failed has nothing to do and does it; after running out of memory each call answers that.
abbrev pub Lasts : {T : Type 0} → Phase → Result T Memory → Type 0
Lasts (Open q) result = Unit {0}
Lasts (Failed fault left totals) result = IsOk result
Lasts (OutOfMemory totals) result = IsErr result

-- ---- a frame

abbrev pub told_list : Option Happening → List Happening
told_list None = []
told_list (Some h) = h ∷ []

-- where the connection stands after a frame, what that told, and the connection's failure
pub record FrameResult : Type 0 where
  pub after : Phase
  pub told : List Happening
  pub fault : Option ConnFault

-- what an outcome makes of the state before it: at a fault the control frames still due and GOAWAY are all that is written
abbrev pub result_of : State → Outcome → FrameResult
result_of q (goes next told) = record { after = Open next; told = told_list told; fault = None }
result_of q (fails control f) = record { after = Failed f (control ++ goaway f) (totals_of q); told = []; fault = Some f }

-- the table's row; after a fault that fault again
unfoldable pub frame_result : Phase → Frame → FrameResult
frame_result (Open q) f = result_of q (peer q f)
frame_result (Failed fault left totals) f = record { after = Failed fault left totals; told = []; fault = Some fault }
frame_result (OutOfMemory totals) f = record { after = OutOfMemory totals; told = []; fault = None }

-- a refusal: the fault that is due, or out of memory
abbrev pub Refuses : ConnError → FrameResult → Phase → Phase → Type 0
Refuses (refusal.Fault f) due old new = (due.fault ≡ Some f) × (new ≡ due.after)
Refuses refusal.Memory due old new = new ≡ out_of_memory old

-- on a connection that has failed there is one answer
abbrev pub Repeats : Phase → Result (Unit {0}) ConnError → Type 0
Repeats (Open q) result = Unit {0}
Repeats (Failed fault left totals) result = result ≡ Err (refusal.Fault fault)
Repeats (OutOfMemory totals) result = result ≡ Err refusal.Memory

-- ---- answers

-- own rule: a stream that is not live, or was given its last block, takes nothing
abbrev pub takes : ℕ → State → Bool
takes n q = is_live n q.streams && is_open n q.outbox

unfoldable pub with_head_on : ℕ → List ℕ → State → State
with_head_on n block q = if takes n q then record q { outbox = with_head n block q.outbox } else q

unfoldable pub with_trailers_on : ℕ → List ℕ → State → State
with_trailers_on n block q = if takes n q then record q { outbox = with_trailers n block q.outbox } else q

unfoldable pub with_message_on : ℕ → List ℕ → State → State
with_message_on n message q = if takes n q then record q { outbox = with_message n message q.outbox } else q

unfoldable pub without_waiting_on : ℕ → State → State
without_waiting_on n q = if takes n q then record q { outbox = without_waiting n q.outbox } else q

-- RFC 9113, section 6.4: RST_STREAM by this side; on a stream that is not live it is nothing
unfoldable pub after_reset : ℕ → ℕ → State → State
after_reset n code q = if is_live n q.streams then without_live_stream n (with_control_frame n (Reset code) q) else q

-- what it does to a connection that goes on; one that has failed or is broken takes nothing
abbrev pub on_open : (State → State) → Phase → Phase
on_open step (Open q) = Open (step q)
on_open step (Failed fault left totals) = Failed fault left totals
on_open step (OutOfMemory totals) = OutOfMemory totals

-- a message is offered, or the waiting one withdrawn
abbrev pub offers : ℕ → List ℕ → Phase → Phase
offers n message l = on_open (with_message_on n message) l

abbrev pub withdraws : ℕ → Phase → Phase
withdraws n l = on_open (without_waiting_on n) l

-- ---- a flush

-- END_STREAM was written on it: the stream closes if its request has ended (RFC 9113, section 5.1)
unfoldable pub answer_ends : ℕ → State → State
answer_ends n q = if is_remote_closed n q.streams then without_live_stream n q else record q { streams = with_local_closed n q.streams }

abbrev pub answers_end : List ℕ → State → State
answers_end [] q = q
answers_end (n ∷ ns) q = answers_end ns (answer_ends n q)

-- own rule: a message that began, or END_STREAM, ends the count of resets
abbrev pub ends_reset_count : State → PullResult → Bool
ends_reset_count q p = not (p.left.flow.begun == q.outbox.flow.begun) || not (length p.ended == 0)

unfoldable pub after_pull : State → PullResult → State
after_pull q p = answers_end p.ended (record q { outbox = p.left; rapid_reset_count = if ends_reset_count q p then 0 else q.rapid_reset_count })

-- bytes, and where the connection stands after them
pub record FlushResult : Type 0 where
  pub bytes : List ℕ
  pub after : Phase

-- what Pull writes; after a fault what was still due, once
unfoldable pub flush_of : Phase → FlushResult
flush_of (Open q) = record { bytes = (pull_of q.outbox).bytes; after = Open (after_pull q (pull_of q.outbox)) }
flush_of (Failed fault left totals) = record { bytes = left; after = Failed fault [] totals }
flush_of (OutOfMemory totals) = record { bytes = []; after = OutOfMemory totals }
