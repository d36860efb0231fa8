-- When a ready call is refused on a view, and what its message is (own rules after the SPIRE agent): laws of the answers.
use Rattle.std.specs.Prelude.{◌≡◌, ◌↔◌, ℕ, ◌==◌, Bool, true, false, if◌then◌else◌, List, [], ◌∷◌, Option, Some, None}
use Rattle.h2_conn.specs.declared.phase.Phase.{Phase}
use Rattle.grpc_wire.specs.declared.refusal.Refusal.{Refusal}
use Rattle.grpc_wire.specs.declared.refusal.Refusal.TheVariants.{NoIdentity, LongResponse, UnknownService}
use Rattle.wl_health.specs.Messages.{spell_state}
use Rattle.wl_snapshot.specs.Views.{ViewModel}
use Rattle.wl_snapshot.specs.Answers.{answer_of, asks_of, message_of}
use Rattle.wl_snapshot.specs.declared.answers.Answer.{Answer}
use Rattle.wl_snapshot.specs.declared.answers.Answer.TheVariants.{Denied, Wait, TooLong, Message}
use Rattle.wl_snapshot.specs.declared.answers.Method3.{Method3}
use Rattle.wl_snapshot.specs.declared.token_asks.Wanted.{Wanted}
use Rattle.wl_session.specs.declared.served.CallKind.{CallKind}
use Rattle.wl_session.specs.declared.served.CallKind.TheVariants.{Stream, Tokens, Check, Watch}
use Rattle.wl_session.specs.declared.served.Stage.TheVariants.{Ready}
use Rattle.wl_session.specs.Answering.{call_answer, has_ended, goes_on, with_refusal, with_message, with_last_message, health_of}

abbrev pub stream_refusal : Answer → Option Refusal
stream_refusal Denied = Some NoIdentity
stream_refusal Wait = None
stream_refusal (TooLong size) = Some LongResponse
stream_refusal (Message m) = None

abbrev pub token_refusal : List Wanted → Option Refusal
token_refusal [] = Some NoIdentity
token_refusal (w ∷ ws) = None

-- why a ready call is refused on a view, if it is
abbrev pub refusal_on : CallKind → ViewModel → Option Refusal
refusal_on (Stream method) v = stream_refusal (answer_of method v)
refusal_on (Tokens audience id) v = token_refusal (asks_of id v)
refusal_on (Check service) v = if health_of service v == 3 then Some UnknownService else None
refusal_on (Watch service) v = None

-- a call that is refused ends with that refusal
abbrev pub RefusedCallEnds : Type 0
RefusedCallEnds = (n : ℕ) (kind : CallKind) (sel : List (List ℕ)) (headed : Bool) (v : ViewModel) (p : Phase) (r : Refusal) → refusal_on kind v ≡ Some r → call_answer n kind sel headed v p ≡ has_ended (with_refusal n headed r p)

-- a call that isn't a health call, of a caller that sees no entry, or asks for no token
abbrev pub SeesNothing : CallKind → ViewModel → Type 0
SeesNothing (Stream method) v = v.held ≡ []
SeesNothing (Tokens audience id) v = asks_of id v ≡ []
SeesNothing (Check service) v = ⊥
SeesNothing (Watch service) v = ⊥

-- status 7 exactly there
abbrev pub NoIdentityExactly : Type 0
NoIdentityExactly = (kind : CallKind) (v : ViewModel) → (refusal_on kind v ≡ Some NoIdentity) ↔ SeesNothing kind v

abbrev pub AsksUnknown : CallKind → ViewModel → Type 0
AsksUnknown (Stream method) v = ⊥
AsksUnknown (Tokens audience id) v = ⊥
AsksUnknown (Check service) v = health_of service v ≡ 3
AsksUnknown (Watch service) v = ⊥

-- status 5 exactly at a Check of a service that is not known
abbrev pub UnknownServiceExactly : Type 0
UnknownServiceExactly = (kind : CallKind) (v : ViewModel) → (refusal_on kind v ≡ Some UnknownService) ↔ AsksUnknown kind v

-- a message that is offered is the method's message on that view, in its encoding
abbrev pub MessageIsOfView : Type 0
MessageIsOfView = (n : ℕ) (method : Method3) (sel : List (List ℕ)) (headed : Bool) (v : ViewModel) (p : Phase) (m : List ℕ) → answer_of method v ≡ Message m
    → (m ≡ message_of method v) × (call_answer n (Stream method) sel headed v p ≡ goes_on n (Ready (Stream method) sel (Some v) true) (with_message n headed (message_of method v) p))

-- a Watch is offered the state of its service on that view, and a Check that is not refused gets it with status 0
abbrev pub HealthIsOfView : Type 0
HealthIsOfView = (n : ℕ) (service : List ℕ) (sel : List (List ℕ)) (headed : Bool) (v : ViewModel) (p : Phase)
    → (call_answer n (Watch service) sel headed v p ≡ goes_on n (Ready (Watch service) sel (Some v) true) (with_message n headed (spell_state (health_of service v)) p))
    × ((health_of service v == 3) ≡ false → call_answer n (Check service) sel headed v p ≡ has_ended (with_last_message n headed (spell_state (health_of service v)) p))
