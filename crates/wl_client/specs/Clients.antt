-- Heard: what a client hears in the bytes of a server, however they are cut (own rule, on RFC 9113, RFC 7541 and gRPC).
use Rattle.std.specs.Prelude.{◌≡◌, ℕ, List, [], ◌++◌, Option, Some, None, Result, Ok, Err}
use Rattle.h2_frame.specs.declared.fault.FrameFault.{FrameFault}
use Rattle.h2_frame.specs.Reading.{End, Opening, Rest, Fault, Reading, reading_from, rest_of}
use Rattle.wl_client.specs.declared.fault.ClientFault.{ClientFault}
use Rattle.wl_client.specs.declared.fault.ClientFault.TheVariants as faults
use Rattle.wl_client.specs.declared.reply.Heard.{Heard}
use Rattle.wl_client.specs.declared.listener.Listener.{Listener}
use Rattle.wl_client.specs.Faults.{Refuses}
use Rattle.wl_client.specs.Hearing.{Hearing, fresh_listener, frames_heard}

-- A client goes on from where the bytes so far end and what it knows of the call, or it has failed.
pub data ClientState : Type 0 where
  Listening : End → Listener → ClientState
  Failed : ClientFault → ClientState

abbrev pub fresh_state : ClientState
fresh_state = Listening (Rest []) fresh_listener

-- what some bytes give: what is heard, what is written, and from where the client goes on
pub record Reply : Type 0 where
  pub told : List Heard
  pub bytes : List ℕ
  pub after : ClientState

-- the faults of the frames before that of the bytes after them
abbrev pub state_of : End → Listener → ClientState
state_of (Opening left) l = Listening (Opening left) l
state_of (Rest rest) l = Listening (Rest rest) l
state_of (Fault why) l = Failed (faults.Frame why)

abbrev pub state_after : Result Listener ClientFault → End → ClientState
state_after (Ok l) ending = state_of ending l
state_after (Err fault) ending = Failed fault

abbrev pub ended_by : End → Hearing → Reply
ended_by ending h = record { told = h.told; bytes = h.bytes; after = state_after h.after ending }

-- the frames in turn, and then the fault of bytes that are none
unfoldable pub heard_in : Reading → Listener → Reply
heard_in r l = ended_by r.ending (frames_heard r.frames l)

-- going on from a state
unfoldable pub heard_from : ClientState → List ℕ → Reply
heard_from (Listening ending l) bytes = heard_in (reading_from ending bytes) l
heard_from (Failed fault) bytes = record { told = []; bytes = []; after = Failed fault }

-- Heard: all bytes of a server
unfoldable pub heard : List ℕ → Reply
heard bytes = heard_from fresh_state bytes

-- what a reply is with more bytes
abbrev pub heard_on : Reply → List ℕ → Reply
heard_on r more = record { told = r.told ++ (heard_from r.after more).told; bytes = r.bytes ++ (heard_from r.after more).bytes; after = (heard_from r.after more).after }

-- ---- what a client is

-- the bytes that open its call, and its state
pub record Calling : Type 0 where
  pub opening : List ℕ
  pub state : ClientState

abbrev pub state_by : Option ClientFault → End → Listener → ClientState
state_by None ending l = Listening ending l
state_by (Some fault) ending l = Failed fault

abbrev pub IsListening : ClientState → Type 0
IsListening (Listening ending l) = Unit {0}
IsListening (Failed fault) = ⊥

-- What a call answered, of which this was due: all of it, or the fault after all of it, or out of memory.
abbrev pub Feeds : Reply → Result (Unit {0}) ClientFault → List Heard → List Heard → List ℕ → List ℕ → ClientState → Type 0
Feeds due (Ok done) old new was now after = (new ≡ old ++ due.told) × (now ≡ was ++ due.bytes) × (after ≡ due.after) × IsListening after
Feeds due (Err fault) old new was now after = (after ≡ Failed fault) × Refuses fault ((new ≡ old ++ due.told) × (now ≡ was ++ due.bytes) × (due.after ≡ Failed fault))

-- A client stands for these bytes: it is where they lead, or memory ran out on the way.
abbrev pub StandsFor : ClientState → List ℕ → Type 0
StandsFor (Listening ending l) bytes = (heard bytes).after ≡ Listening ending l
StandsFor (Failed fault) bytes = Refuses fault ((heard bytes).after ≡ Failed fault)

-- the same of a step whose client is taken apart
abbrev pub Arrives : Reply → Result (Unit {0}) ClientFault → List Heard → List Heard → List ℕ → List ℕ → End → Listener → Type 0
Arrives due (Ok done) old new was now ending l = (new ≡ old ++ due.told) × (now ≡ was ++ due.bytes) × (due.after ≡ Listening ending l)
Arrives due (Err fault) old new was now ending l = Refuses fault ((new ≡ old ++ due.told) × (now ≡ was ++ due.bytes) × (due.after ≡ Failed fault))

-- the fault of bytes that aren't frames
abbrev pub frame_fault_in : End → Option FrameFault
frame_fault_in (Opening left) = None
frame_fault_in (Rest rest) = None
frame_fault_in (Fault why) = Some why

-- the bytes of the last frame that isn't whole
abbrev pub rest_in : ClientState → List ℕ
rest_in (Listening ending l) = rest_of ending
rest_in (Failed fault) = []
