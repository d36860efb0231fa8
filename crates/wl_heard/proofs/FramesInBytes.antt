-- A reader finds the frames of a talk in its bytes.
use Rattle.std.proofs.Common.{◌≡◌, inl, inr, ℕ, ◌==◌, Bool, true, false, List, [], ◌∷◌, ◌++◌, length, map, Option, Some, None, refl, sym, ap, subst, ◌∙◌, arith, append_assoc, nat_lt}
use Rattle.std.specs.List.{AllByRecursion}
use Rattle.std.proofs.lemmas.Bool.{cases_Bool}
use Rattle.h2_frame.specs.declared.frame.Body.TheVariants as bodies
use Rattle.wl_heard.proofs.Common.{Frame, Sent, headers, ConnFault, Happening, Phase, Open, Failed, OutOfMemory, frame_result, after_frame_fault, CallEvent, verdict, standing_of_head, standing_at, event_at, calls_after, with_call, calls_turn, name_first, give_first, Talking, after_event, after_body, after_happening, after_happenings, after_frame, written, frame_said, break_said, turn_said, name_said, given_said, Step, FrameCame, BytesBroke, CallAttested, TurnTaken, OutcomeCame, step_said, talk_after, FitsStep, AllFit, unwritten, frames_due, frames_of, steps_of, steps_fit, frame_of, IsControl, greeting_frames, control_frames, due_frames, step_frames, frames_written, data_in, Lasts, l_refusal, l_turns, l_names, l_gives}
use Rattle.h2_frame.specs.Reading.{Rest}
use Rattle.h2_frame.specs.Reading as reader
use Rattle.h2_flow.specs.Streams.{content}
use Rattle.h2_flow.specs.Pulls.{bytes_of}
use Rattle.h2_flow.specs.Progress.{all_data_on}
use Rattle.h2_conn.specs.declared.happening.Happening.TheVariants as happening
use Rattle.h2_conn.specs.Conns.{frame_fault_on}
use Rattle.grpc_conn.specs.declared.event.CallEvent.TheVariants as events
use Rattle.wl_session.specs.Talks.{settings_bytes, greeting}
use Rattle.wl_session.specs.Sessions.{with_turned}
use Rattle.wl_responses.specs.Steps.{control_due}
use Rattle.wl_responses.specs.Replies.{AnsweringTurn, Replies, begin_with, replies_with, waiting_on, turn_on, replies_on}
use Rattle.wl_responses.specs.Moves.{bytes_of_steps}
use Rattle.wl_responses.proofs.Bytes.{steps_write_frames}
use Rattle.wl_responses.proofs.MoveSteps.{sessions_take_steps}
use Rattle.wl_heard.specs.Written.{settings_frame, data_of, data_on, TalksAreRead, ControlIsRead, DataIsRead, SessionsAreRead, SessionDataIsRead}
use Rattle.wl_heard.proofs.WholeFrames.{AreFound, Holds, holds_none, found_none, found_both, found_all, found_spelled, found_sents, IsShortSent}
use Rattle.wl_heard.proofs.SoundConnections.{Tidy, fresh_tidy, frame_tidy, broken_tidy, head_tidy, trailers_tidy, message_tidy, silence_tidy, reset_tidy, flush_tidy, pull_short}
use Rattle.wl_heard.proofs.Blocks.{head_short, last_short, refusal_short}

-- ---- each connection of a talk

tidy_lasts : Lasts Tidy
tidy_lasts = record {
  headed = λ n p h. head_tidy n _ p head_short h;
  offered = λ n m p h. message_tidy n m p h;
  silenced = λ n p h. silence_tidy n p h;
  refused = λ n r alone p h. trailers_tidy n _ p (refusal_short r alone) h;
  finished = λ n p h. trailers_tidy n _ p last_short h;
  reset = λ n p h. reset_tidy n 1 p (omega arith) h;
}

event_tidy : (n : ℕ) (e : CallEvent) (t : Talking) → Tidy t.phase → Tidy (after_event n e t).phase
unfolding after_event
event_tidy n events.Nothing t h = h
event_tidy n events.Malformed t h = reset_tidy n 1 t.phase (omega arith) h
event_tidy n (events.Refuse why) t h = l_refusal Tidy tidy_lasts n false why t.phase h
event_tidy n (events.Ready method message request) t h = h

happening_tidy : (g : Happening) (t : Talking) → Tidy t.phase → Tidy (after_happening g t).phase
unfolding after_happening after_body
happening_tidy (happening.Head n list ended) t h = event_tidy n (verdict list [] ended) (record t { calls = with_call n (standing_of_head list ended) t.calls }) h
happening_tidy (happening.Body n bytes ended) t h = event_tidy n (event_at (standing_at n t.calls) bytes ended) (record t { calls = calls_after n bytes ended t.calls }) h
happening_tidy (happening.End n) t h = event_tidy n (event_at (standing_at n t.calls) [] true) (record t { calls = calls_after n [] true t.calls }) h
happening_tidy (happening.Gone n) t h = h

happenings_tidy : (gs : List Happening) (t : Talking) → Tidy t.phase → Tidy (after_happenings gs t).phase
happenings_tidy [] t h = h
happenings_tidy (g ∷ gs) t h = happenings_tidy gs (after_happening g t) (happening_tidy g t h)

pub unwritten_tidy : (step : Step) (t : Talking) → FitsStep step → Tidy t.phase → Tidy (unwritten step t)
unfolding after_frame
unwritten_tidy (FrameCame f) t fits h = happenings_tidy (frame_result t.phase f).told (record t { phase = (frame_result t.phase f).after }) (frame_tidy f t.phase fits h)
unwritten_tidy (BytesBroke why) t fits h = broken_tidy why t.phase h
unwritten_tidy (CallAttested caller) t fits h = l_names Tidy tidy_lasts caller t.served t.phase h
unwritten_tidy (TurnTaken x) t fits h = l_turns Tidy tidy_lasts x t.served t.phase h
unwritten_tidy (OutcomeCame o) t fits h = l_gives Tidy tidy_lasts o t.served t.phase h

written_tidy : (fault : Option ConnFault) (t : Talking) → Tidy t.phase → Tidy (written fault t).after.phase
unfolding written
written_tidy fault t h = flush_tidy t.phase h

step_tidy : (step : Step) (t : Talking) → FitsStep step → Tidy t.phase → Tidy (step_said step t).after.phase
unfolding frame_said break_said name_said turn_said given_said
step_tidy (FrameCame f) t fits h = written_tidy (frame_result t.phase f).fault (after_frame f t) (unwritten_tidy (FrameCame f) t fits h)
step_tidy (BytesBroke why) t fits h = written_tidy (frame_fault_on why t.phase) (record t { phase = after_frame_fault why t.phase }) (unwritten_tidy (BytesBroke why) t fits h)
step_tidy (CallAttested None) t fits h = written_tidy None (with_turned t (name_first None t.served t.phase)) (unwritten_tidy (CallAttested None) t fits h)
step_tidy (CallAttested (Some sel)) t fits h = unwritten_tidy (CallAttested (Some sel)) t fits h
step_tidy (TurnTaken x) t fits h = written_tidy None (with_turned t (calls_turn x t.served t.phase)) (unwritten_tidy (TurnTaken x) t fits h)
step_tidy (OutcomeCame o) t fits h = written_tidy None (with_turned t (give_first o t.served t.phase)) (unwritten_tidy (OutcomeCame o) t fits h)

pub steps_tidy : (steps : List Step) → AllFit steps → Tidy (talk_after steps).phase
steps_tidy [] fit = fresh_tidy
steps_tidy (step ∷ before) fit = step_tidy step (talk_after before) fit.1 (steps_tidy before fit.0)

-- ---- what is written

greeting_found : (greeted : Bool) → AreFound (greeting_frames greeted) (greeting greeted)
unfolding settings_bytes
greeting_found true = found_none
greeting_found false = found_spelled settings_frame (omega arith) ((omega arith, omega arith), ((omega arith, omega arith), tt)) (omega arith)

control_holds : (p : Phase) → Tidy p → Holds IsControl (control_due p)
control_holds (Open q) h = h.queued.control
control_holds (Failed fault left totals) h = h
control_holds (OutOfMemory totals) h = holds_none

sents_short : (p : Phase) → Tidy p → AllByRecursion IsShortSent (frames_due p)
sents_short (Open q) h = pull_short q h
sents_short (Failed fault left totals) h = tt
sents_short (OutOfMemory totals) h = tt

-- frames that are found are those that are read
read_itself : {P : Frame → Type 0} (b : List ℕ) → (h : Holds P b) → h.frames ≡ (reader.frames_of b).frames
read_itself b h = sym (ap (λ (r : reader.Reading). r.frames) (found_all h.frames b h.found))

itself_found : {P : Frame → Type 0} (b : List ℕ) → Holds P b → AreFound (reader.frames_of b).frames b
itself_found b h = subst (λ (fs : List Frame). AreFound fs b) (read_itself b h) h.found

due_found : (greeted : Bool) (p : Phase) (sent : List Sent) → sent ≡ frames_due p → Tidy p → AreFound (greeting_frames greeted ++ ((reader.frames_of (control_due p)).frames ++ map frame_of sent)) (greeting greeted ++ (control_due p ++ bytes_of sent))
due_found greeted p sent same h =
    found_both (greeting_frames greeted) ((reader.frames_of (control_due p)).frames ++ map frame_of sent) (greeting greeted) (control_due p ++ bytes_of sent) (greeting_found greeted)
    (found_both (reader.frames_of (control_due p)).frames (map frame_of sent) (control_due p) (bytes_of sent) (itself_found (control_due p) (control_holds p h))
    (found_sents sent (subst (λ (ss : List Sent). AllByRecursion IsShortSent ss) (sym same) (sents_short p h))))

step_found : (step : Step) (t : Talking) → FitsStep step → Tidy t.phase → AreFound (step_frames step t) (step_said step t).bytes
step_found (FrameCame f) t fits h = rw (steps_write_frames (FrameCame f) t) (due_found t.greeted (unwritten (FrameCame f) t) (frames_of (FrameCame f) t) refl (unwritten_tidy (FrameCame f) t fits h))
step_found (BytesBroke why) t fits h = rw (steps_write_frames (BytesBroke why) t) (due_found t.greeted (unwritten (BytesBroke why) t) (frames_of (BytesBroke why) t) refl (unwritten_tidy (BytesBroke why) t fits h))
step_found (CallAttested None) t fits h = rw (steps_write_frames (CallAttested None) t) (due_found t.greeted (unwritten (CallAttested None) t) (frames_of (CallAttested None) t) refl (unwritten_tidy (CallAttested None) t fits h))
step_found (CallAttested (Some sel)) t fits h = rw (steps_write_frames (CallAttested (Some sel)) t) found_none
step_found (TurnTaken x) t fits h = rw (steps_write_frames (TurnTaken x) t) (due_found t.greeted (unwritten (TurnTaken x) t) (frames_of (TurnTaken x) t) refl (unwritten_tidy (TurnTaken x) t fits h))
step_found (OutcomeCame o) t fits h = rw (steps_write_frames (OutcomeCame o) t) (due_found t.greeted (unwritten (OutcomeCame o) t) (frames_of (OutcomeCame o) t) refl (unwritten_tidy (OutcomeCame o) t fits h))

steps_found : (steps : List Step) → AllFit steps → AreFound (frames_written steps) (bytes_of_steps steps)
steps_found [] fit = found_none
steps_found (step ∷ before) fit =
    let t = talk_after before in
    found_both (frames_written before) (step_frames step t) (bytes_of_steps before) (step_said step t).bytes (steps_found before fit.0) (step_found step t fit.1 (steps_tidy before fit.0))

pub talks_are_read : TalksAreRead
talks_are_read steps fit = found_all (frames_written steps) (bytes_of_steps steps) (steps_found steps fit)

pub control_is_read : ControlIsRead
control_is_read step before fit =
    let t = talk_after before in
    let h = control_holds (unwritten step t) (unwritten_tidy step t fit.1 (steps_tidy before fit.0)) in
    subst (λ (fs : List Frame). AllByRecursion IsControl fs) (read_itself (control_due (unwritten step t)) h) h.all

-- ---- DATA

pub data_both : (n : ℕ) (fs gs : List Frame) → data_in n (fs ++ gs) ≡ data_in n fs ++ data_in n gs
data_both n [] gs = refl
data_both n (f ∷ fs) gs = ap (λ (xs : List ℕ). data_on n f ++ xs) (data_both n fs gs) ∙ sym (append_assoc (data_on n f) (data_in n fs) (data_in n gs))

none_if : (b : Bool) → Rattle.std.specs.Bool.if◌then◌else◌ {A = List ℕ} b [] [] ≡ []
none_if true = refl
none_if false = refl

control_data : (n : ℕ) (f : Frame) → IsControl f → data_on n f ≡ []
control_data n f h = go f.body h
  where
    go : (b : Rattle.h2_frame.specs.declared.frame.Body.Body) → Rattle.wl_heard.specs.Written.IsControlBody b → Rattle.std.specs.Bool.if◌then◌else◌ {A = List ℕ} (n == f.stream) (data_of b) [] ≡ []
    go (bodies.Bytes bytes size ended) k = absurd k
    go (bodies.Headers block ended whole) k = absurd k
    go bodies.Priority k = absurd k
    go (bodies.Reset code) k = none_if (n == f.stream)
    go (bodies.Settings pairs) k = absurd k
    go bodies.SettingsAck k = none_if (n == f.stream)
    go bodies.PushPromise k = absurd k
    go (bodies.Ping ack word) k = none_if (n == f.stream)
    go (bodies.GoAway last code) k = none_if (n == f.stream)
    go (bodies.WindowUpdate step) k = none_if (n == f.stream)
    go (bodies.Continuation block whole) k = absurd k
    go (bodies.Unknown kind) k = absurd k

controls_data : (n : ℕ) (fs : List Frame) → AllByRecursion IsControl fs → data_in n fs ≡ []
controls_data n [] h = refl
controls_data n (f ∷ fs) h = rw (control_data n f h.0) (controls_data n fs h.1)

pub sents_data : (n : ℕ) (ss : List Sent) → data_in n (map frame_of ss) ≡ all_data_on n ss
sents_data n [] = refl
sents_data n (headers stream block ended ∷ ss) = rw (none_if (n == stream)) (sents_data n ss)
sents_data n (content stream bytes ∷ ss) = ap (λ (xs : List ℕ). data_on n (frame_of (content stream bytes)) ++ xs) (sents_data n ss)

greeting_data : (n : ℕ) (greeted : Bool) → data_in n (greeting_frames greeted) ≡ []
greeting_data n true = refl
greeting_data n false = rw (none_if (n == 0)) refl

due_data : (n : ℕ) (step : Step) (before : List Step) → AllFit (step ∷ before) → data_in n (due_frames step (talk_after before)) ≡ all_data_on n (frames_of step (talk_after before))
due_data n step before fit =
    let t = talk_after before in
    let sent = frames_of step t in
    data_both n (greeting_frames t.greeted) (control_frames step t ++ map frame_of sent)
    ∙ (ap (λ (xs : List ℕ). xs ++ data_in n (control_frames step t ++ map frame_of sent)) (greeting_data n t.greeted)
    ∙ (data_both n (control_frames step t) (map frame_of sent)
    ∙ (ap (λ (xs : List ℕ). xs ++ data_in n (map frame_of sent)) (controls_data n (control_frames step t) (control_is_read step before fit))
    ∙ sents_data n sent)))

pub step_data : (n : ℕ) (step : Step) (before : List Step) → AllFit (step ∷ before) → data_in n (step_frames step (talk_after before)) ≡ all_data_on n (frames_of step (talk_after before))
step_data n (FrameCame f) before fit = due_data n (FrameCame f) before fit
step_data n (BytesBroke why) before fit = due_data n (BytesBroke why) before fit
step_data n (CallAttested None) before fit = due_data n (CallAttested None) before fit
step_data n (CallAttested (Some sel)) before fit = refl
step_data n (TurnTaken x) before fit = due_data n (TurnTaken x) before fit
step_data n (OutcomeCame o) before fit = due_data n (OutcomeCame o) before fit

begun_written : (d : List ℕ) (turn : Option AnsweringTurn) (w : Option (List ℕ)) (r : Replies) → (begin_with d turn w r).written ≡ r.written ++ d
begun_written d turn None r = refl
begun_written d turn (Some m) r = refl

more_written : (d : List ℕ) (turn : Option AnsweringTurn) (w : Option (List ℕ)) (r : Replies) → (replies_with d turn w r).written ≡ r.written ++ d
unfolding replies_with
more_written d turn w r =
    elim (cases_Bool (nat_lt (length r.left) (length d))) [
      | inl more ↦ rw more (begun_written d turn w r)
      | inr less ↦ rw less refl
    ]

pub written_data : (n : ℕ) (steps : List Step) → AllFit steps → data_in n (frames_written steps) ≡ (replies_on n steps).written
written_data n [] fit = refl
written_data n (step ∷ before) fit =
    let t = talk_after before in
    data_both n (frames_written before) (step_frames step t)
    ∙ (ap (λ (xs : List ℕ). xs ++ data_in n (step_frames step t)) (written_data n before fit.0)
    ∙ (ap (λ (xs : List ℕ). (replies_on n before).written ++ xs) (step_data n step before fit)
    ∙ sym (more_written (all_data_on n (frames_of step t)) (turn_on n (step ∷ before)) (waiting_on n (unwritten step t)) (replies_on n before))))

pub data_is_read : DataIsRead
data_is_read n steps fit = ap (λ (r : reader.Reading). data_in n r.frames) (talks_are_read steps fit) ∙ written_data n steps fit

-- ---- sessions

pub sessions_are_read : SessionsAreRead
sessions_are_read moves = ap reader.frames_of (sessions_take_steps moves).bytes ∙ talks_are_read (steps_of moves) (steps_fit moves)

pub session_data_is_read : SessionDataIsRead
session_data_is_read n moves = ap (λ (b : List ℕ). data_in n (reader.frames_of b).frames) (sessions_take_steps moves).bytes ∙ data_is_read n (steps_of moves) (steps_fit moves)
