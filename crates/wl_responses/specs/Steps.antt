-- A talk as a list of steps, the last one first: what came to it, and the frames that were written after each (own rules).
use Rattle.std.specs.Prelude.{◌≡◌, ℕ, List, [], ◌∷◌, ◌++◌, Option, Some, None}
use Rattle.h2_frame.specs.declared.fault.FrameFault.{FrameFault}
use Rattle.h2_frame.specs.declared.frame.Frame.{Frame}
use Rattle.h2_flow.specs.Streams.{Sent}
use Rattle.h2_flow.specs.Outboxes.{pull_of}
use Rattle.h2_flow.specs.Pulls.{bytes_of}
use Rattle.h2_conn.specs.declared.phase.Phase.{Phase}
use Rattle.h2_conn.specs.declared.phase.Phase.TheVariants.{Open, Failed, OutOfMemory}
use Rattle.h2_conn.specs.Conns.{after_frame_fault}
use Rattle.h2_conn.specs.Kinds.{Fits}
use Rattle.wl_snapshot.specs.Snapshots.{Publication}
use Rattle.wl_session.specs.declared.asks.JwtOutcome.{JwtOutcome}
use Rattle.wl_session.specs.Answering.{calls_turn}
use Rattle.wl_session.specs.Tokens.{name_first, give_first}
use Rattle.wl_session.specs.Talks.{Talking, Said, fresh_talk, after_frame, greeting, frame_said, break_said}
use Rattle.wl_session.specs.Sessions.{turn_said, name_said, given_said}

-- A frame of the peer came; bytes came that aren't a frame; the first call that was not attested got its selectors, or could
-- not be attested; a turn read this publication; and the first waiting ask got this.
pub data Step : Type 0 where
  FrameCame : Frame → Step
  BytesBroke : FrameFault → Step
  CallAttested : Option (List (List ℕ)) → Step
  TurnTaken : Publication → Step
  OutcomeCame : JwtOutcome → Step

-- what a step makes of a talk, and what is written after it
abbrev pub step_said : Step → Talking → Said
step_said (FrameCame f) t = frame_said f t
step_said (BytesBroke why) t = break_said why t
step_said (CallAttested caller) t = name_said caller t
step_said (TurnTaken x) t = turn_said x t
step_said (OutcomeCame o) t = given_said o t

-- the talk after these steps
abbrev pub talk_after : List Step → Talking
talk_after [] = fresh_talk
talk_after (step ∷ before) = (step_said step (talk_after before)).after

-- a frame's stream has 31 bits
abbrev pub FitsStep : Step → Type 0
FitsStep (FrameCame f) = Fits f
FitsStep (BytesBroke why) = Unit {0}
FitsStep (CallAttested caller) = Unit {0}
FitsStep (TurnTaken x) = Unit {0}
FitsStep (OutcomeCame o) = Unit {0}

abbrev pub AllFit : List Step → Type 0
AllFit [] = Unit {0}
AllFit (step ∷ before) = AllFit before × FitsStep step

-- ---- what a step writes

-- the connection after a step, before anything is written
abbrev pub unwritten : Step → Talking → Phase
unwritten (FrameCame f) t = (after_frame f t).phase
unwritten (BytesBroke why) t = after_frame_fault why t.phase
unwritten (CallAttested caller) t = (name_first caller t.served t.phase).phase
unwritten (TurnTaken x) t = (calls_turn x t.served t.phase).phase
unwritten (OutcomeCame o) t = (give_first o t.served t.phase).phase

-- HEADERS and DATA that are written on a connection that stands so
abbrev pub frames_due : Phase → List Sent
frames_due (Open q) = (pull_of q.outbox).sent
frames_due (Failed fault left totals) = []
frames_due (OutOfMemory totals) = []

-- HEADERS and DATA that are written after a step; after selectors there is nothing to write
abbrev pub frames_of : Step → Talking → List Sent
frames_of (FrameCame f) t = frames_due (unwritten (FrameCame f) t)
frames_of (BytesBroke why) t = frames_due (unwritten (BytesBroke why) t)
frames_of (CallAttested None) t = frames_due (unwritten (CallAttested None) t)
frames_of (CallAttested (Some selectors)) t = []
frames_of (TurnTaken x) t = frames_due (unwritten (TurnTaken x) t)
frames_of (OutcomeCame o) t = frames_due (unwritten (OutcomeCame o) t)

-- ---- its bytes

-- the control frames that are queued on a connection; after a fault what is still due, the last frame of which is GOAWAY
abbrev pub control_due : Phase → List ℕ
control_due (Open q) = q.outbox.control
control_due (Failed fault left totals) = left
control_due (OutOfMemory totals) = []

-- this side's SETTINGS before all else, the control frames, and then HEADERS and DATA
abbrev pub AreDue : Step → Talking → Type 0
AreDue step t =
    (step_said step t).bytes ≡ greeting t.greeted ++ (control_due (unwritten step t) ++ bytes_of (frames_of step t))

abbrev pub WritesFrames : Step → Talking → Type 0
WritesFrames (FrameCame f) t = AreDue (FrameCame f) t
WritesFrames (BytesBroke why) t = AreDue (BytesBroke why) t
WritesFrames (CallAttested None) t = AreDue (CallAttested None) t
WritesFrames (CallAttested (Some selectors)) t = (step_said (CallAttested (Some selectors)) t).bytes ≡ []
WritesFrames (TurnTaken x) t = AreDue (TurnTaken x) t
WritesFrames (OutcomeCame o) t = AreDue (OutcomeCame o) t

abbrev pub StepsWriteFrames : Type 0
StepsWriteFrames = (step : Step) (t : Talking) → WritesFrames step t
