-- The bytes of a step are this side's SETTINGS before all else, the queued control frames, and its HEADERS and DATA.
use Rattle.std.proofs.Common.{◌≡◌, ℕ, Bool, true, List, [], ◌∷◌, ◌++◌, Option, Some, None, refl, sym, ap, ◌∙◌, append-nil}
use Rattle.wl_responses.proofs.Common.{Frame, pull_of, ConnFault, Happening, Phase, Open, Failed, OutOfMemory, frame_result, flush_of, after_frame_fault, CallEvent, verdict, standing_of_head, standing_at, event_at, calls_after, with_call, calls_turn, name_first, give_first, Talking, after_event, after_body, after_happening, after_happenings, after_frame, frame_said, break_said, turn_said, name_said, given_said, FrameCame, BytesBroke, CallAttested, TurnTaken, OutcomeCame, frames_due}
use Rattle.h2_flow.specs.Pulls.{bytes_of}
use Rattle.h2_conn.specs.declared.happening.Happening.TheVariants as happening
use Rattle.h2_conn.specs.Conns.{frame_fault_on}
use Rattle.grpc_conn.specs.declared.event.CallEvent.TheVariants as events
use Rattle.wl_session.specs.Talks.{greeting, written}
use Rattle.wl_session.specs.Sessions.{with_turned}
use Rattle.wl_responses.specs.Steps.{control_due, StepsWriteFrames}

-- what may be written on a connection
due : (p : Phase) → (flush_of p).bytes ≡ control_due p ++ bytes_of (frames_due p)
unfolding flush_of pull_of
due (Open q) = refl
due (Failed fault left totals) = sym (append-nil left)
due (OutOfMemory totals) = refl

written_bytes : (fault : Option ConnFault) (t : Talking) → (written fault t).bytes ≡ greeting t.greeted ++ (control_due t.phase ++ bytes_of (frames_due t.phase))
unfolding written
written_bytes fault t = ap (λ (xs : List ℕ). greeting t.greeted ++ xs) (due t.phase)

-- ---- a frame greets nobody

event_greeted : (n : ℕ) (e : CallEvent) (t : Talking) → (after_event n e t).greeted ≡ t.greeted
unfolding after_event
event_greeted n events.Nothing t = refl
event_greeted n events.Malformed t = refl
event_greeted n (events.Refuse why) t = refl
event_greeted n (events.Ready method message request) t = refl

happening_greeted : (g : Happening) (t : Talking) → (after_happening g t).greeted ≡ t.greeted
unfolding after_happening after_body
happening_greeted (happening.Head n headers ended) t = event_greeted n (verdict headers [] ended) (record t { calls = with_call n (standing_of_head headers ended) t.calls })
happening_greeted (happening.Body n bytes ended) t = event_greeted n (event_at (standing_at n t.calls) bytes ended) (record t { calls = calls_after n bytes ended t.calls })
happening_greeted (happening.End n) t = event_greeted n (event_at (standing_at n t.calls) [] true) (record t { calls = calls_after n [] true t.calls })
happening_greeted (happening.Gone n) t = refl

happenings_greeted : (gs : List Happening) (t : Talking) → (after_happenings gs t).greeted ≡ t.greeted
happenings_greeted [] t = refl
happenings_greeted (g ∷ gs) t = happenings_greeted gs (after_happening g t) ∙ happening_greeted g t

frame_greeted : (f : Frame) (t : Talking) → (after_frame f t).greeted ≡ t.greeted
unfolding after_frame
frame_greeted f t = happenings_greeted (frame_result t.phase f).told (record t { phase = (frame_result t.phase f).after })

-- ---- all steps

pub steps_write_frames : StepsWriteFrames
unfolding frame_said break_said name_said turn_said given_said
steps_write_frames (FrameCame f) t =
    let u = after_frame f t in
    written_bytes (frame_result t.phase f).fault u ∙ ap (λ (b : Bool). greeting b ++ (control_due u.phase ++ bytes_of (frames_due u.phase))) (frame_greeted f t)
steps_write_frames (BytesBroke why) t = written_bytes (frame_fault_on why t.phase) (record t { phase = after_frame_fault why t.phase })
steps_write_frames (CallAttested None) t = written_bytes None (with_turned t (name_first None t.served t.phase))
steps_write_frames (CallAttested (Some sel)) t = refl
steps_write_frames (TurnTaken x) t = written_bytes None (with_turned t (calls_turn x t.served t.phase))
steps_write_frames (OutcomeCame o) t = written_bytes None (with_turned t (give_first o t.served t.phase))
