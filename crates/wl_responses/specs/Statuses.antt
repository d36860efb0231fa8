-- The last block that the stream of a call is given, and with it the status of the call (gRPC over HTTP/2, Responses; SPIFFE
-- Workload API; own rules after the SPIRE agent).
use Rattle.std.specs.Prelude.{◌≡◌, ◌↔◌, ℕ, nat_lt, Bool, true, false, not, if◌then◌else◌, List, [], ◌∷◌, ◌++◌, length, find, Option, Some, None}
use Rattle.std.specs.List.{AllByRecursion}
use Rattle.hpack.specs.Writing.{block_bytes}
use Rattle.h2_flow.specs.declared.stream.Stream.{Stream}
use Rattle.h2_conn.specs.declared.phase.Phase.{Phase}
use Rattle.h2_conn.specs.declared.phase.Phase.TheVariants.{Open, Failed, OutOfMemory}
use Rattle.h2_conn.specs.declared.happening.Happening.{Happening}
use Rattle.h2_conn.specs.declared.happening.Happening.TheVariants as happening
use Rattle.h2_conn.specs.Conns.{frame_result}
use Rattle.h2_conn.specs.Holding.{IsHeld}
use Rattle.h2_conn.specs.Kinds.{Fits}
use Rattle.grpc_conn.specs.declared.event.CallEvent.{CallEvent}
use Rattle.grpc_conn.specs.declared.event.CallEvent.TheVariants.{Nothing, Refuse}
use Rattle.grpc_conn.specs.declared.standing.Call.{Call}
use Rattle.grpc_conn.specs.Verdicts.{verdict}
use Rattle.grpc_conn.specs.Calls.{standing_at, event_at}
use Rattle.h2_frame.specs.declared.frame.Frame.{Frame}
use Rattle.grpc_wire.specs.Messages.{framed}
use Rattle.grpc_wire.specs.Answers.{trailer_fields, refused_fields}
use Rattle.grpc_wire.specs.declared.refusal.Refusal.{Refusal}
use Rattle.grpc_wire.specs.declared.refusal.Refusal.TheVariants.{NoIdentity, LongResponse, UnknownService, Unsigned, Unattested}
use Rattle.workload_proto.specs.declared.limits.TheConstants.{MAX_RESPONSE_LEN}
use Rattle.workload_proto.specs.declared.message.JwtItem.{JwtItem}
use Rattle.workload_proto.specs.Spelling.{spell_jwt, capped}
use Rattle.wl_health.specs.Messages.{spell_state}
use Rattle.wl_snapshot.specs.Snapshots.{Publication}
use Rattle.wl_snapshot.specs.Views.{ViewModel, view_in}
use Rattle.wl_snapshot.specs.declared.token_asks.Wanted.{Wanted}
use Rattle.wl_session.specs.declared.asks.JwtAsk.{JwtAsk}
use Rattle.wl_session.specs.declared.asks.JwtOutcome.{JwtOutcome}
use Rattle.wl_session.specs.declared.asks.JwtOutcome.TheVariants as outcomes
use Rattle.wl_session.specs.declared.served.CallKind.{CallKind}
use Rattle.wl_session.specs.declared.served.CallKind.TheVariants.{Stream as Streaming, Tokens, Check, Watch}
use Rattle.wl_session.specs.declared.served.Stage.{Stage}
use Rattle.wl_session.specs.declared.served.Stage.TheVariants.{Unnamed, Ready, Asking}
use Rattle.wl_session.specs.Answering.{health_of}
use Rattle.wl_session.specs.Refusing.{refusal_on, SeesNothing, AsksUnknown}
use Rattle.wl_session.specs.Tokens.{first_unnamed, is_asking, item_for}
use Rattle.wl_session.specs.Talks.{Talking}
use Rattle.wl_responses.specs.Steps.{Step, FrameCame, BytesBroke, CallAttested, TurnTaken, OutcomeCame, talk_after, unwritten, AllFit}
use Rattle.wl_responses.specs.Replies.{stage_on}

-- ---- the stream of a call

-- each stream of this number has this
abbrev pub On : ℕ → (Stream → Type 0) → List Stream → Type 0
On n P ss = AllByRecursion (λ s. s.number ≡ n → P s) ss

-- so it is on a connection that goes on
abbrev pub OnPhase : ℕ → (Stream → Type 0) → Phase → Type 0
OnPhase n P (Open q) = On n P q.outbox.streams
OnPhase n P (Failed fault left totals) = Unit {0}
OnPhase n P (OutOfMemory totals) = Unit {0}

-- it was not given its last block
abbrev pub IsUnfinished : Stream → Type 0
IsUnfinished s = s.finished ≡ false

-- its last block is this one, and is due
abbrev pub IsGivenLast : List ℕ → Stream → Type 0
IsGivenLast block s = (s.finished ≡ true) × (s.trailers ≡ Some block)

-- no message waits before it
abbrev pub IsGivenNext : List ℕ → Stream → Type 0
IsGivenNext block s = IsGivenLast block s × (s.waiting ≡ None)

-- ---- how a call ends

-- it goes on; it ends with a refusal; or with its one message and status 0
pub data Ending : Type 0 where
  GoesOn : Ending
  IsRefused : Refusal → Ending
  IsAnswered : List ℕ → Ending

-- on the stream of a call whose head was written, or not: a refusal before the head is one Trailers-Only frame
abbrev pub HasEnding : Bool → Ending → Stream → Type 0
HasEnding headed GoesOn s = IsUnfinished s
HasEnding headed (IsRefused r) s = IsGivenNext (block_bytes (refused_fields r (not headed))) s
HasEnding headed (IsAnswered message) s = IsGivenLast (block_bytes (trailer_fields 0 [] false)) s × IsHeld (framed message) s.waiting s.last

-- ---- at its verdict

-- the stream of which a frame told
abbrev pub stream_told : Happening → ℕ
stream_told (happening.Head n headers ended) = n
stream_told (happening.Body n bytes ended) = n
stream_told (happening.End n) = n
stream_told (happening.Gone n) = n

-- what it comes to for the call on that stream
abbrev pub event_told : Happening → List Call → CallEvent
event_told (happening.Head n headers ended) calls = verdict headers [] ended
event_told (happening.Body n bytes ended) calls = event_at (standing_at n calls) bytes ended
event_told (happening.End n) calls = event_at (standing_at n calls) [] true
event_told (happening.Gone n) calls = Nothing

-- a call that its verdict refuses
abbrev pub HasVerdictEnding : Frame → Talking → Type 0
HasVerdictEnding f t =
    (told : Happening) (r : Refusal) → (frame_result t.phase f).told ≡ told ∷ [] → event_told told t.calls ≡ Refuse r
    → OnPhase (stream_told told) (HasEnding false (IsRefused r)) (unwritten (FrameCame f) t)

-- ---- at a turn

-- a Check that is not refused has its one answer; each other call goes on
abbrev pub unrefused : CallKind → ViewModel → Ending
unrefused (Streaming method) v = GoesOn
unrefused (Tokens audience id) v = GoesOn
unrefused (Check service) v = IsAnswered (spell_state (health_of service v))
unrefused (Watch service) v = GoesOn

abbrev pub refused_or : Option Refusal → Ending → Ending
refused_or None ending = ending
refused_or (Some r) ending = IsRefused r

-- a ready call on a view
abbrev pub ending_on : CallKind → ViewModel → Ending
ending_on kind v = refused_or (refusal_on kind v) (unrefused kind v)

abbrev pub ending_at : Publication → Stage → Ending
ending_at x (Unnamed kind) = GoesOn
ending_at x (Ready kind sel seen headed) = ending_on kind (view_in x sel)
ending_at x (Asking first rest got) = GoesOn

-- its response head was written
abbrev pub is_headed : Stage → Bool
is_headed (Unnamed kind) = false
is_headed (Ready kind sel seen headed) = headed
is_headed (Asking first rest got) = false

-- each call after a turn, before anything is written
abbrev pub HasTurnEnding : Publication → Talking → Type 0
HasTurnEnding x t = (n : ℕ) (s : Stage) → stage_on n t.served ≡ Some s → OnPhase n (HasEnding (is_headed s) (ending_at x s)) (unwritten (TurnTaken x) t)

-- a call that isn't a health call, of a caller that sees no entry, or asks for no token
abbrev pub SeesNothingAt : Publication → Stage → Type 0
SeesNothingAt x (Unnamed kind) = ⊥
SeesNothingAt x (Ready kind sel seen headed) = SeesNothing kind (view_in x sel)
SeesNothingAt x (Asking first rest got) = ⊥

-- a Check of a service that is not known
abbrev pub AsksUnknownAt : Publication → Stage → Type 0
AsksUnknownAt x (Unnamed kind) = ⊥
AsksUnknownAt x (Ready kind sel seen headed) = AsksUnknown kind (view_in x sel)
AsksUnknownAt x (Asking first rest got) = ⊥

-- ---- at a name

abbrev pub ending_named : Option (List (List ℕ)) → Ending
ending_named None = IsRefused Unattested
ending_named (Some selectors) = GoesOn

-- the first call that was not attested
abbrev pub HasNameEnding : Option (List (List ℕ)) → Talking → Type 0
HasNameEnding caller t = (n : ℕ) → first_unnamed t.served ≡ Some n → OnPhase n (HasEnding false (ending_named caller)) (unwritten (CallAttested caller) t)

-- ---- at a token

-- the message of all tokens
abbrev pub ending_of_tokens : List JwtItem → Ending
ending_of_tokens items =
    let message = spell_jwt (record { svids = items }) in
    if nat_lt MAX_RESPONSE_LEN (capped (length message)) then IsRefused LongResponse else IsAnswered message

abbrev pub ending_after : List Wanted → List JwtItem → Ending
ending_after [] items = ending_of_tokens items
ending_after (w ∷ ws) items = GoesOn

-- one token that cannot be had ends the call; else it ends after its last ask
abbrev pub ending_given : JwtOutcome → JwtAsk → List Wanted → List JwtItem → Ending
ending_given (outcomes.Token t) first rest got = ending_after rest (got ++ item_for first t ∷ [])
ending_given outcomes.Failed first rest got = IsRefused Unsigned
ending_given (outcomes.Unfit why) first rest got = IsRefused Unsigned

-- the first call that waits for tokens
abbrev pub HasTokenEnding : JwtOutcome → Talking → Type 0
HasTokenEnding o t =
    (n : ℕ) (first : JwtAsk) (rest : List Wanted) (got : List JwtItem) → find is_asking t.served ≡ Some (record { stream = n; stage = Asking first rest got })
    → OnPhase n (HasEnding false (ending_given o first rest got)) (unwritten (OutcomeCame o) t)

-- ---- each step

-- what a step gives the calls of a talk
abbrev pub GivesStatus : Step → Talking → Type 0
GivesStatus (FrameCame f) t = HasVerdictEnding f t
GivesStatus (BytesBroke why) t = Unit {0}
GivesStatus (CallAttested caller) t = HasNameEnding caller t
GivesStatus (TurnTaken x) t = HasTurnEnding x t
GivesStatus (OutcomeCame o) t = HasTokenEnding o t

-- so it is with all of these steps
abbrev pub AllGiveStatuses : List Step → Type 0
AllGiveStatuses [] = Unit {0}
AllGiveStatuses (step ∷ before) = GivesStatus step (talk_after before) × AllGiveStatuses before

-- ---- laws

-- a ready call was not given its last block
abbrev pub NoStatusBefore : Type 0
NoStatusBefore = (steps : List Step) → AllFit steps → (n : ℕ) (s : Stage) → stage_on n (talk_after steps).served ≡ Some s → OnPhase n IsUnfinished (talk_after steps).phase

abbrev pub VerdictsGiveStatuses : Type 0
VerdictsGiveStatuses = (f : Frame) (steps : List Step) → Fits f → AllFit steps → HasVerdictEnding f (talk_after steps)

abbrev pub TurnsGiveStatuses : Type 0
TurnsGiveStatuses = (x : Publication) (steps : List Step) → AllFit steps → HasTurnEnding x (talk_after steps)

-- status 7 exactly where a call sees nothing
abbrev pub DeniedWhereNothingIsSeen : Type 0
DeniedWhereNothingIsSeen = (x : Publication) (s : Stage) → (ending_at x s ≡ IsRefused NoIdentity) ↔ SeesNothingAt x s

-- status 5 exactly where it asks for a service that is not known
abbrev pub UnknownWhereAsked : Type 0
UnknownWhereAsked = (x : Publication) (s : Stage) → (ending_at x s ≡ IsRefused UnknownService) ↔ AsksUnknownAt x s

abbrev pub NamesGiveStatuses : Type 0
NamesGiveStatuses = (caller : Option (List (List ℕ))) (steps : List Step) → AllFit steps → HasNameEnding caller (talk_after steps)

abbrev pub TokensGiveStatuses : Type 0
TokensGiveStatuses = (o : JwtOutcome) (steps : List Step) → AllFit steps → HasTokenEnding o (talk_after steps)
