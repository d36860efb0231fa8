-- The frames that a talk writes, as a reader of HTTP/2 has them (RFC 9113, section 4.1).
use Rattle.std.specs.Prelude.{◌≡◌, ℕ, ◌==◌, Bool, true, false, if◌then◌else◌, List, [], ◌∷◌, ◌++◌, length, map, flat_map, Some, None}
use Rattle.std.specs.List.{AllByRecursion}
use Rattle.h2_wire.specs.declared.setting.TheConstants.{MAX_CONCURRENT_STREAMS, MAX_HEADER_LIST_SIZE}
use Rattle.h2_frame.specs.declared.frame.Frame.{Frame}
use Rattle.h2_frame.specs.declared.frame.Body.{Body}
use Rattle.h2_frame.specs.declared.frame.Body.TheVariants.{Bytes, Headers, Reset, Settings, SettingsAck, Ping, GoAway, WindowUpdate}
use Rattle.h2_frame.specs.Reading.{Rest}
use Rattle.h2_frame.specs.Reading as reader
use Rattle.h2_flow.specs.Streams.{Sent, headers, content}
use Rattle.wl_session.specs.Talks.{Talking}
use Rattle.wl_responses.specs.Steps.{Step, FrameCame, BytesBroke, CallAttested, TurnTaken, OutcomeCame, talk_after, AllFit, unwritten, frames_of, control_due}
use Rattle.wl_responses.specs.Replies.{replies_on}
use Rattle.wl_responses.specs.Moves.{Move, bytes_after, steps_of, bytes_of_steps, replies_in}

-- ---- frames

-- HEADERS with END_HEADERS, and DATA without END_STREAM and padding
abbrev pub frame_of : Sent → Frame
frame_of (headers stream block ended) = record { stream = stream; body = Headers block ended true }
frame_of (content stream bytes) = record { stream = stream; body = Bytes bytes (length bytes) false }

-- acknowledgements, RST_STREAM, GOAWAY and WINDOW_UPDATE
abbrev pub IsControlBody : Body → Type 0
IsControlBody (Reset code) = Unit {0}
IsControlBody SettingsAck = Unit {0}
IsControlBody (Ping true word) = Unit {0}
IsControlBody (GoAway last code) = Unit {0}
IsControlBody (WindowUpdate step) = Unit {0}
IsControlBody body = ⊥

abbrev pub IsControl : Frame → Type 0
IsControl f = IsControlBody f.body

-- RFC 9113, section 3.4: the server's SETTINGS; own rules: at most 16 streams, header lists of at most 16,384 bytes
abbrev pub settings_frame : Frame
settings_frame = record { stream = 0; body = Settings (record { id = MAX_CONCURRENT_STREAMS; value = 16 } ∷ record { id = MAX_HEADER_LIST_SIZE; value = 16384 } ∷ []) }

abbrev pub greeting_frames : Bool → List Frame
greeting_frames true = []
greeting_frames false = settings_frame ∷ []

-- ---- steps

-- what is due on the connection, read by itself
abbrev pub control_frames : Step → Talking → List Frame
control_frames step t = (reader.frames_of (control_due (unwritten step t))).frames

-- this side's SETTINGS before all else, the control frames, and then HEADERS and DATA
abbrev pub due_frames : Step → Talking → List Frame
due_frames step t = greeting_frames t.greeted ++ (control_frames step t ++ map frame_of (frames_of step t))

-- after selectors nothing is written
abbrev pub step_frames : Step → Talking → List Frame
step_frames (FrameCame f) t = due_frames (FrameCame f) t
step_frames (BytesBroke why) t = due_frames (BytesBroke why) t
step_frames (CallAttested None) t = due_frames (CallAttested None) t
step_frames (CallAttested (Some selectors)) t = []
step_frames (TurnTaken x) t = due_frames (TurnTaken x) t
step_frames (OutcomeCame o) t = due_frames (OutcomeCame o) t

abbrev pub frames_written : List Step → List Frame
frames_written [] = []
frames_written (step ∷ before) = frames_written before ++ step_frames step (talk_after before)

-- ---- DATA

-- what a frame of DATA brings on a stream
abbrev pub data_of : Body → List ℕ
data_of (Bytes bytes size ended) = bytes
data_of body = []

abbrev pub data_on : ℕ → Frame → List ℕ
data_on n f = if n == f.stream then data_of f.body else []

abbrev pub data_in : ℕ → List Frame → List ℕ
data_in n frames = flat_map (data_on n) frames

-- ---- laws

-- a reader without a preface finds in the bytes of a talk the frames that were written, and nothing after them
abbrev pub TalksAreRead : Type 0
TalksAreRead = (steps : List Step) → AllFit steps → reader.frames_of (bytes_of_steps steps) ≡ record { frames = frames_written steps; ending = Rest [] }

-- what is due on the connection are control frames
abbrev pub ControlIsRead : Type 0
ControlIsRead = (step : Step) (before : List Step) → AllFit (step ∷ before) → AllByRecursion IsControl (control_frames step (talk_after before))

-- DATA of a stream among them is what was written there
abbrev pub DataIsRead : Type 0
DataIsRead = (n : ℕ) (steps : List Step) → AllFit steps → data_in n (reader.frames_of (bytes_of_steps steps)).frames ≡ (replies_on n steps).written

-- the same of a session
abbrev pub SessionsAreRead : Type 0
SessionsAreRead = (moves : List Move) → reader.frames_of (bytes_after moves) ≡ record { frames = frames_written (steps_of moves); ending = Rest [] }

abbrev pub SessionDataIsRead : Type 0
SessionDataIsRead = (n : ℕ) (moves : List Move) → data_in n (reader.frames_of (bytes_after moves)).frames ≡ (replies_in n moves).written
