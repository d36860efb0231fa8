-- The header lists of an answer on the wire, and the status that a client hears (PROTOCOL-HTTP2 of gRPC, "Responses":
-- Response-Headers, Trailers, Trailers-Only and grpc-status).
use Rattle.std.specs.Prelude.{◌≡◌, ◌⊎◌, ℕ, ◌==◌, Bool, true, false, not, if◌then◌else◌, List, [], ◌∷◌, ◌++◌, find, Option, Some, Result, IsOkAnd}
use Rattle.std.specs.List.{AllByRecursion}
use Rattle.wl_octets.specs.declared.header.Header.{Header}
use Rattle.hpack.specs.declared.fault.HpackFault.{HpackFault}
use Rattle.hpack.specs.Decoding.{Standing, Good, decode_block}
use Rattle.hpack.specs.Tables.{first_table}
use Rattle.h2_frame.specs.declared.frame.Frame.{Frame}
use Rattle.h2_frame.specs.declared.frame.Body.{Body}
use Rattle.h2_frame.specs.declared.frame.Body.TheVariants.{Headers, Continuation}
use Rattle.h2_frame.specs.Reading.{frames_of}
use Rattle.h2_conn.specs.declared.happening.Happening.{Happening}
use Rattle.h2_conn.specs.Conns.{frame_result}
use Rattle.grpc_conn.specs.declared.event.CallEvent.TheVariants.{Refuse}
use Rattle.grpc_wire.specs.Answers.{response_fields, trailer_fields, refused_fields, percent_encoded}
use Rattle.grpc_wire.specs.Refusals.{status_of, text_of, is_http_refusal}
use Rattle.grpc_wire.specs.declared.refusal.Refusal.{Refusal}
use Rattle.workload_proto.specs.declared.message.JwtItem.{JwtItem}
use Rattle.wl_snapshot.specs.Snapshots.{Publication}
use Rattle.wl_snapshot.specs.declared.token_asks.Wanted.{Wanted}
use Rattle.wl_session.specs.declared.asks.JwtAsk.{JwtAsk}
use Rattle.wl_session.specs.declared.asks.JwtOutcome.{JwtOutcome}
use Rattle.wl_session.specs.declared.served.Stage.{Stage}
use Rattle.wl_session.specs.declared.served.Stage.TheVariants.{Asking}
use Rattle.wl_session.specs.Tokens.{first_unnamed, is_asking}
use Rattle.wl_session.specs.Talks.{Talking}
use Rattle.wl_responses.specs.Steps.{Step, FrameCame, CallAttested, TurnTaken, OutcomeCame, talk_after, AllFit}
use Rattle.wl_responses.specs.Replies.{stage_on}
use Rattle.wl_responses.specs.Statuses.{Ending, GoesOn, IsRefused, IsAnswered, stream_told, event_told, ending_at, is_headed, ending_named, ending_given}
use Rattle.wl_responses.specs.Moves.{Move, bytes_after, steps_of, bytes_of_steps}
use Rattle.wl_client.specs.declared.fault.ClientFault.{ClientFault}
use Rattle.wl_client.specs.declared.fault.ClientFault.TheVariants.{HttpStatus}
use Rattle.wl_client.specs.declared.reply.Heard.{Heard}
use Rattle.wl_client.specs.declared.reply.Heard.TheVariants.{Head, Message, Status}
use Rattle.wl_client.specs.Openings.{call_stream}
use Rattle.wl_client.specs.Clients.{ClientState, Listening, Failed, heard}
use Rattle.wl_heard.specs.Calls.{MakesOneCall}

-- ---- the ending of a call

-- At a step the call on stream n was given an ending: by its verdict, by the attestor, by its view at a turn, or by the outcome
-- of its ask. The flag says whether its Response-Headers were due before.
pub data IsGivenAt (n : ℕ) : Bool → Ending → Step → Talking → Type 0 where
  by_verdict : (f : Frame) (t : Talking) (told : Happening) (r : Refusal) → (frame_result t.phase f).told ≡ told ∷ [] → stream_told told ≡ n → event_told told t.calls ≡ Refuse r → IsGivenAt n false (IsRefused r) (FrameCame f) t
  by_attestor : (caller : Option (List (List ℕ))) (t : Talking) → first_unnamed t.served ≡ Some n → IsGivenAt n false (ending_named caller) (CallAttested caller) t
  by_view : (x : Publication) (t : Talking) (s : Stage) → stage_on n t.served ≡ Some s → IsGivenAt n (is_headed s) (ending_at x s) (TurnTaken x) t
  by_token : (o : JwtOutcome) (t : Talking) (first : JwtAsk) (rest : List Wanted) (got : List JwtItem) → find is_asking t.served ≡ Some (record { stream = n; stage = Asking first rest got }) → IsGivenAt n false (ending_given o first rest got) (OutcomeCame o) t

-- at one of these steps
abbrev pub WasGiven : ℕ → Bool → Ending → List Step → Type 0
WasGiven n headed e [] = ⊥
WasGiven n headed e (step ∷ before) = IsGivenAt n headed e step (talk_after before) ⊎ WasGiven n headed e before

-- ---- header lists on the wire

-- the headers of a block, or the decoder's fault, and whether its frame has END_STREAM
pub record HeaderList : Type 0 where
  pub fields : Result (List Header) HpackFault
  pub ended : Bool

-- RFC 9113, section 4.3: one decoder takes the blocks of all streams, in their order
abbrev pub decoder_after : Body → Standing → Standing
decoder_after (Headers block ended whole) d = (decode_block d block).1
decoder_after body d = d

abbrev pub list_of : Body → Standing → List HeaderList
list_of (Headers block ended whole) d = record { fields = (decode_block d block).0; ended = ended } ∷ []
list_of body d = []

-- the header lists of a stream among frames
abbrev pub lists_on : ℕ → List Frame → Standing → List HeaderList
lists_on n [] d = []
lists_on n (f ∷ fs) d = (if n == f.stream then list_of f.body d else []) ++ lists_on n fs (decoder_after f.body d)

-- each block is in one frame
abbrev pub IsWholeBlock : Body → Type 0
IsWholeBlock (Headers block ended whole) = whole ≡ true
IsWholeBlock (Continuation block whole) = ⊥
IsWholeBlock body = Unit {0}

-- Trailers after Response-Headers, or Trailers-Only: grpc-status, and grpc-message where there is a text. Of the two refusals by
-- HTTP the list is :status alone.
abbrev pub Closes : Bool → Ending → List Header → Type 0
Closes headed GoesOn fields = ⊥
Closes headed (IsRefused r) fields = fields ≡ refused_fields r (not headed)
Closes headed (IsAnswered message) fields = fields ≡ trailer_fields 0 [] false

-- they are those of an ending that the call on this stream was given
pub record ClosesCall (n : ℕ) (steps : List Step) (fields : List Header) : Type 0 where
  pub headed : Bool
  pub ending : Ending
  pub given : WasGiven n headed ending steps
  pub closes : Closes headed ending fields

-- without END_STREAM they are Response-Headers
abbrev pub IsDue : ℕ → List Step → Bool → List Header → Type 0
IsDue n steps false fields = fields ≡ response_fields
IsDue n steps true fields = ClosesCall n steps fields

-- A reader of HTTP/2 with a decoder of RFC 7541 decodes each header block in these bytes. On stream n each header list with
-- END_STREAM is that of an ending that the call was given, and each other one is Response-Headers.
pub record HasHeaders (n : ℕ) (steps : List Step) (bytes : List ℕ) : Type 0 where
  pub whole : AllByRecursion (λ f. IsWholeBlock f.body) (frames_of bytes).frames
  pub lists : AllByRecursion (λ l. IsOkAnd l.fields (IsDue n steps l.ended)) (lists_on n (frames_of bytes).frames (Good first_table))

abbrev pub HeadersAreRead : Type 0
HeadersAreRead = (n : ℕ) (steps : List Step) → AllFit steps → HasHeaders n steps (bytes_of_steps steps)

-- the same of a session
abbrev pub SessionHeadersAreRead : Type 0
SessionHeadersAreRead = (n : ℕ) (moves : List Move) → HasHeaders n (steps_of moves) (bytes_after moves)

-- ---- the status that a client hears

-- grpc-status and grpc-message of an ending
abbrev pub HasStatus : Ending → ℕ → List ℕ → Type 0
HasStatus GoesOn code text = ⊥
HasStatus (IsRefused r) code text = (code ≡ status_of r) × (text ≡ percent_encoded (text_of r))
HasStatus (IsAnswered message) code text = (code ≡ 0) × (text ≡ [])

-- they are those of an ending that the client's call was given
pub record IsStatusOfCall (steps : List Step) (code : ℕ) (text : List ℕ) : Type 0 where
  pub headed : Bool
  pub ending : Ending
  pub given : WasGiven call_stream headed ending steps
  pub status : HasStatus ending code text

abbrev pub IsHeardOf : List Step → Heard → Type 0
IsHeardOf steps Head = Unit {0}
IsHeardOf steps (Message m) = Unit {0}
IsHeardOf steps (Status code text) = IsStatusOfCall steps code text

-- nothing is heard after a status
abbrev pub StatusIsLast : List Heard → Type 0
StatusIsLast [] = Unit {0}
StatusIsLast (Head ∷ hs) = StatusIsLast hs
StatusIsLast (Message m ∷ hs) = StatusIsLast hs
StatusIsLast (Status code text ∷ hs) = hs ≡ []

abbrev pub HasStatusIn : List Heard → Type 0
HasStatusIn [] = ⊥
HasStatusIn (Head ∷ hs) = HasStatusIn hs
HasStatusIn (Message m ∷ hs) = HasStatusIn hs
HasStatusIn (Status code text ∷ hs) = Unit {0}

-- a client that goes on
abbrev pub IfListening : ClientState → Type 0 → Type 0
IfListening (Listening ending l) P = P
IfListening (Failed fault) P = Unit {0}

-- HEADERS with END_STREAM are among these frames
abbrev pub EndsBody : Body → Type 0
EndsBody (Headers block ended whole) = ended ≡ true
EndsBody body = ⊥

abbrev pub IsEnded : ℕ → List Frame → Type 0
IsEnded n [] = ⊥
IsEnded n (f ∷ fs) = ((f.stream ≡ n) × EndsBody f.body) ⊎ IsEnded n fs

-- Of a session's bytes: each status that a client hears is that of an ending that its call was given. It is the last that the
-- client hears. Where the session ended the client's stream, a client that goes on has heard a status.
pub record HearsStatus (moves : List Move) : Type 0 where
  pub given : AllByRecursion (IsHeardOf (steps_of moves)) (heard (bytes_after moves)).told
  pub last : StatusIsLast (heard (bytes_after moves)).told
  pub ended : IsEnded call_stream (frames_of (bytes_after moves)).frames → IfListening (heard (bytes_after moves)).after (HasStatusIn (heard (bytes_after moves)).told)

abbrev pub StatusesAreHeard : Type 0
StatusesAreHeard = (moves : List Move) → HearsStatus moves

-- ---- a refusal by HTTP

-- its call was refused so by its verdict
pub record IsHttpOfCall (steps : List Step) (number : ℕ) : Type 0 where
  pub headed : Bool
  pub refusal : Refusal
  pub given : WasGiven call_stream headed (IsRefused refusal) steps
  pub by_http : is_http_refusal refusal ≡ true
  pub is : number ≡ status_of refusal

abbrev pub IsFaultOfCall : List Step → ClientFault → Type 0
IsFaultOfCall steps (HttpStatus number) = IsHttpOfCall steps number
IsFaultOfCall steps fault = Unit {0}

abbrev pub FailsAsGiven : List Step → ClientState → Type 0
FailsAsGiven steps (Listening ending l) = Unit {0}
FailsAsGiven steps (Failed fault) = IsFaultOfCall steps fault

-- Where the peer makes one call, a status of HTTP that a client hears in place of 200 is that of the refusal that its call was given.
abbrev pub HttpRefusalsAreHeard : Type 0
HttpRefusalsAreHeard = (moves : List Move) → MakesOneCall (steps_of moves) → FailsAsGiven (steps_of moves) (heard (bytes_after moves)).after
