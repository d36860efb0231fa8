-- A talk in which the peer makes one call, and what a client hears of it.
use Rattle.std.specs.Prelude.{◌≡◌, ℕ, ◌≤◌, List, [], ◌∷◌, ◌++◌, length}
use Rattle.list_laws.specs.Lists.{BeginsWith}
use Rattle.h2_wire.specs.declared.limit.TheConstants.{MAX_FRAME_SIZE}
use Rattle.h2_frame.specs.declared.frame.Frame.{Frame}
use Rattle.h2_frame.specs.declared.frame.Body.{Body}
use Rattle.h2_frame.specs.declared.frame.Body.TheVariants.{Headers, Continuation}
use Rattle.wl_client.specs.declared.fault.ClientFault.{ClientFault}
use Rattle.wl_client.specs.declared.fault.ClientFault.TheVariants as faults
use Rattle.grpc_wire.specs.declared.method.Method.{Method}
use Rattle.grpc_wire.specs.Messages.{framed}
use Rattle.wl_client.specs.Openings.{call_stream, opening_of}
use Rattle.wl_client.specs.Clients.{ClientState, Listening, Failed, heard}
use Rattle.wl_responses.specs.Steps.{Step, FrameCame, BytesBroke, CallAttested, TurnTaken, OutcomeCame}
use Rattle.wl_responses.specs.Moves.{Move, Fed, TurnedOn, GivenTo, bytes_after, steps_of, replies_in}
use Rattle.wl_heard.specs.Clients.{messages_told, whole_messages}

-- ---- the peer's frames

-- header blocks on the call's stream, each in one frame
abbrev pub IsCallBody : ℕ → Body → Type 0
IsCallBody n (Headers block ended whole) = n ≡ call_stream
IsCallBody n (Continuation block whole) = ⊥
IsCallBody n body = Unit {0}

abbrev pub IsOfOneCall : Frame → Type 0
IsOfOneCall f = IsCallBody f.stream f.body

abbrev pub ComesOfOneCall : Step → Type 0
ComesOfOneCall (FrameCame f) = IsOfOneCall f
ComesOfOneCall (BytesBroke why) = Unit {0}
ComesOfOneCall (CallAttested caller) = Unit {0}
ComesOfOneCall (TurnTaken x) = Unit {0}
ComesOfOneCall (OutcomeCame o) = Unit {0}

-- each frame that came is of the one call, or of the connection
abbrev pub MakesOneCall : List Step → Type 0
MakesOneCall [] = Unit {0}
MakesOneCall (step ∷ before) = MakesOneCall before × ComesOfOneCall step

-- ---- what is heard of it

-- the server refused the request by HTTP, reset the stream, or ended the connection
abbrev pub IsSaidOfCall : ClientFault → Type 0
IsSaidOfCall (faults.HttpStatus number) = Unit {0}
IsSaidOfCall (faults.Reset code) = Unit {0}
IsSaidOfCall (faults.GoAway code) = Unit {0}
IsSaidOfCall fault = ⊥

abbrev pub FailsAsSaid : ClientState → Type 0
FailsAsSaid (Listening ending l) = Unit {0}
FailsAsSaid (Failed fault) = IsSaidOfCall fault

-- No frame of a session is out of its order to the client, each header block is decoded, and the stream ends with a status;
-- and whether it goes on or has failed, the messages that it hears are all whole ones that were written on its stream.
pub record HearsCall (moves : List Move) : Type 0 where
  pub faults : FailsAsSaid (heard (bytes_after moves)).after
  pub messages : messages_told (heard (bytes_after moves)).told ≡ whole_messages (replies_in call_stream moves).written

abbrev pub CallsAreHeard : Type 0
CallsAreHeard = (moves : List Move) → MakesOneCall (steps_of moves) → HearsCall moves

-- ---- a client's bytes

-- all bytes that were fed to a session
abbrev pub bytes_fed : List Move → List ℕ
bytes_fed [] = []
bytes_fed (Fed piece caller ∷ before) = bytes_fed before ++ piece
bytes_fed (TurnedOn x ∷ before) = bytes_fed before
bytes_fed (GivenTo o ∷ before) = bytes_fed before

-- those that open a client's call, and what it wrote for these bytes of a server
abbrev pub client_bytes : Method → List ℕ → List ℕ → List ℕ
client_bytes method message server = opening_of method message ++ (heard server).bytes

-- so it is where a session was fed the bytes of a client, as far as they came; the call's message fits one frame
abbrev pub ClientsAreAnswered : Type 0
ClientsAreAnswered = (method : Method) (message server : List ℕ) (moves : List Move) → length (framed message) ≤ MAX_FRAME_SIZE → BeginsWith (client_bytes method message server) (bytes_fed moves) → HearsCall moves
