-- Talk: what a frame of the peer does, and what is written after each item (own rule).
use Rattle.std.specs.Prelude.{ℕ, ◌==◌, Bool, true, false, not, nat_lt, if◌then◌else◌, List, [], ◌∷◌, ◌++◌, filter, Option, Some, None}
use Rattle.h2_wire.specs.declared.setting.TheConstants.{MAX_CONCURRENT_STREAMS, MAX_HEADER_LIST_SIZE}
use Rattle.h2_frame.specs.declared.fault.FrameFault.{FrameFault}
use Rattle.h2_frame.specs.declared.frame.Frame.{Frame}
use Rattle.h2_frame.specs.declared.frame.Body.TheVariants as bodies
use Rattle.h2_frame.specs.Writing.{frame_encoding}
use Rattle.h2_conn.specs.declared.fault.ConnFault.{ConnFault}
use Rattle.h2_conn.specs.declared.happening.Happening.{Happening}
use Rattle.h2_conn.specs.declared.happening.Happening.TheVariants as happening
use Rattle.h2_conn.specs.declared.phase.Phase.{Phase}
use Rattle.h2_conn.specs.declared.phase.Phase.TheVariants.{Open}
use Rattle.h2_conn.specs.Conns.{new_state, FrameResult, frame_result, on_open, after_reset, flush_of, frame_fault_on, after_frame_fault}
use Rattle.grpc_conn.specs.declared.event.CallEvent.{CallEvent}
use Rattle.grpc_conn.specs.declared.event.CallEvent.TheVariants.{Nothing, Malformed, Refuse, Ready}
use Rattle.grpc_conn.specs.declared.standing.Call.{Call}
use Rattle.grpc_conn.specs.Verdicts.{verdict}
use Rattle.grpc_conn.specs.Calls.{standing_of_head, standing_at, event_at, calls_after, with_call, without}
use Rattle.wl_session.specs.declared.served.Stage.TheVariants.{Unnamed}
use Rattle.wl_session.specs.declared.served.ServedCall.{ServedCall}
use Rattle.wl_session.specs.Kinds.{kind_of}
use Rattle.wl_session.specs.Answering.{with_refusal}

-- The state from which a talk goes on: whether this side's SETTINGS were written, the connection, the calls whose verdict
-- is not there yet, and the ready ones by ascending stream.
pub record Talking : Type 0 where
  pub greeted : Bool
  pub phase : Phase
  pub calls : List Call
  pub served : List ServedCall

abbrev pub fresh_talk : Talking
fresh_talk = record { greeted = false; phase = Open new_state; calls = []; served = [] }

-- ---- a verdict

-- by ascending stream
abbrev pub with_served : ServedCall → List ServedCall → List ServedCall
with_served c [] = c ∷ []
with_served c (d ∷ ds) = if nat_lt c.stream d.stream then c ∷ d ∷ ds else d ∷ with_served c ds

abbrev pub others : ℕ → List ServedCall → List ServedCall
others n cs = filter (λ c. not (c.stream == n)) cs

-- RFC 9113, section 8.1.1: a malformed request is a stream error PROTOCOL_ERROR; a call leaves those that wait for their
-- verdict with it
unfoldable pub after_event : ℕ → CallEvent → Talking → Talking
after_event n Nothing t = t
after_event n Malformed t = record t { phase = on_open (after_reset n 1) t.phase; calls = without n t.calls }
after_event n (Refuse r) t = record t { phase = with_refusal n false r t.phase; calls = without n t.calls }
after_event n (Ready method message request) t = record t { calls = without n t.calls; served = with_served (record { stream = n; stage = Unnamed (kind_of method request) }) t.served }

-- ---- a frame

unfoldable pub after_body : ℕ → List ℕ → Bool → Talking → Talking
after_body n bytes ended t = after_event n (event_at (standing_at n t.calls) bytes ended) (record t { calls = calls_after n bytes ended t.calls })

unfoldable pub after_happening : Happening → Talking → Talking
after_happening (happening.Head n headers ended) t = after_event n (verdict headers [] ended) (record t { calls = with_call n (standing_of_head headers ended) t.calls })
after_happening (happening.Body n bytes ended) t = after_body n bytes ended t
after_happening (happening.End n) t = after_body n [] true t
after_happening (happening.Gone n) t = record t { calls = without n t.calls; served = others n t.served }

abbrev pub after_happenings : List Happening → Talking → Talking
after_happenings [] t = t
after_happenings (h ∷ hs) t = after_happenings hs (after_happening h t)

-- what a frame told; on a connection that has failed nothing is reported
abbrev pub after_heard : FrameResult → Talking → Talking
after_heard h t = after_happenings h.told (record t { phase = h.after })

unfoldable pub after_frame : Frame → Talking → Talking
after_frame f t = after_heard (frame_result t.phase f) t

-- ---- what is written

-- RFC 9113, section 3.4: the server's SETTINGS; own rules: at most 16 streams, header lists of at most 16,384 bytes
unfoldable pub settings_bytes : List ℕ
settings_bytes = frame_encoding (record { stream = 0; body = bodies.Settings (record { id = MAX_CONCURRENT_STREAMS; value = 16 } ∷ record { id = MAX_HEADER_LIST_SIZE; value = 16384 } ∷ []) })

abbrev pub greeting : Bool → List ℕ
greeting true = []
greeting false = settings_bytes

-- a talk after an item, what was written, and the fault with which the talk failed
pub record Said : Type 0 where
  pub after : Talking
  pub bytes : List ℕ
  pub fault : Option ConnFault

-- after each item: this side's SETTINGS before all else, and what may be written now
unfoldable pub written : Option ConnFault → Talking → Said
written fault t =
    let w = flush_of t.phase in
    record { after = record { greeted = true; phase = w.after; calls = t.calls; served = t.served }; bytes = greeting t.greeted ++ w.bytes; fault = fault }

-- the first fault counts
abbrev pub first_of : Option ConnFault → Option ConnFault → Option ConnFault
first_of None g = g
first_of (Some f) g = Some f

abbrev pub then_ : Said → (Talking → Said) → Said
then_ s go_on =
    let r = go_on s.after in
    record { after = r.after; bytes = s.bytes ++ r.bytes; fault = first_of s.fault r.fault }

abbrev pub silent : Talking → Said
silent t = record { after = t; bytes = []; fault = None }

-- a frame, and what is written after it
unfoldable pub frame_said : Frame → Talking → Said
frame_said f t = written (frame_result t.phase f).fault (after_frame f t)

-- frames, one after another
unfoldable pub frames_said : List Frame → Talking → Said
frames_said [] t = silent t
frames_said (f ∷ fs) t = then_ (frame_said f t) (frames_said fs)

-- bytes that aren't frames, and what is written after them
unfoldable pub break_said : FrameFault → Talking → Said
break_said why t = written (frame_fault_on why t.phase) (record t { phase = after_frame_fault why t.phase })
