-- What a ready call is answered on a view (own rules after the SPIRE agent; gRPC over HTTP/2, Responses).
use Rattle.std.specs.Prelude.{◌≡◌, ℕ, ◌==◌, Bool, true, false, not, if◌then◌else◌, List, [], ◌∷◌, ◌++◌, length, Option, Some, None, Result, Ok, Err}
use Rattle.wl_octets.specs.declared.memory.Memory.{Memory}
use Rattle.hpack.specs.Writing.{block_bytes}
use Rattle.h2_conn.specs.declared.phase.Phase.{Phase}
use Rattle.h2_conn.specs.Conns.{on_open, with_head_on, with_trailers_on, offers, withdraws}
use Rattle.grpc_wire.specs.Messages.{framed}
use Rattle.grpc_wire.specs.Answers.{response_fields, trailer_fields, refused_fields}
use Rattle.grpc_wire.specs.declared.refusal.Refusal.{Refusal}
use Rattle.grpc_wire.specs.declared.refusal.Refusal.TheVariants.{NoIdentity, LongResponse, UnknownService}
use Rattle.wl_health.specs.Health.{state_of}
use Rattle.wl_health.specs.Messages.{spell_state}
use Rattle.wl_snapshot.specs.Snapshots.{Publication}
use Rattle.wl_snapshot.specs.Views.{ViewModel, view_in, is_whole}
use Rattle.wl_snapshot.specs.Answers.{answer_of, asks_of}
use Rattle.wl_snapshot.specs.declared.answers.Answer.{Answer}
use Rattle.wl_snapshot.specs.declared.answers.Answer.TheVariants.{Denied, Wait, TooLong, Message}
use Rattle.wl_snapshot.specs.declared.answers.Method3.{Method3}
use Rattle.wl_snapshot.specs.declared.token_asks.Wanted.{Wanted}
use Rattle.wl_session.specs.declared.asks.JwtAsk.{JwtAsk}
use Rattle.wl_session.specs.declared.served.CallKind.{CallKind}
use Rattle.wl_session.specs.declared.served.CallKind.TheVariants.{Stream, Tokens, Check, Watch}
use Rattle.wl_session.specs.declared.served.Stage.{Stage}
use Rattle.wl_session.specs.declared.served.Stage.TheVariants.{Unnamed, Ready, Asking}
use Rattle.wl_session.specs.declared.served.ServedCall.{ServedCall}
use Rattle.wl_session.specs.Kinds.{was_seen}

-- ---- on the connection

-- the response head, once
unfoldable pub with_head : ℕ → Bool → Phase → Phase
with_head n headed p = if headed then p else on_open (with_head_on n (block_bytes response_fields)) p

-- a message is offered after the head
unfoldable pub with_message : ℕ → Bool → List ℕ → Phase → Phase
with_message n headed m p = offers n (framed m) (with_head n headed p)

-- the one message, and status 0
unfoldable pub with_last_message : ℕ → Bool → List ℕ → Phase → Phase
with_last_message n headed m p = on_open (with_trailers_on n (block_bytes (trailer_fields 0 [] false))) (with_message n headed m p)

-- a stream that ends with a refusal has no waiting message; without a response head it is one Trailers-Only frame
unfoldable pub with_refusal : ℕ → Bool → Refusal → Phase → Phase
with_refusal n headed r p = on_open (with_trailers_on n (block_bytes (refused_fields r (not headed)))) (withdraws n p)

-- ---- one call

-- the connection, and the call, or nothing where it has ended
pub record Turned : Type 0 where
  pub phase : Phase
  pub kept : List ServedCall

abbrev pub goes_on : ℕ → Stage → Phase → Turned
goes_on n stage p = record { phase = p; kept = record { stream = n; stage = stage } ∷ [] }

abbrev pub has_ended : Phase → Turned
has_ended p = record { phase = p; kept = [] }

abbrev pub kept_of : ℕ → Option Stage → List ServedCall
kept_of n None = []
kept_of n (Some stage) = record { stream = n; stage = stage } ∷ []

-- what was answered is what is due, unless memory ran out
abbrev pub Gives : Result (Option Stage) Memory → ℕ → Phase → Turned → Type 0
Gives (Ok stage) n p due = due ≡ record { phase = p; kept = kept_of n stage }
Gives (Err memory) n p due = Unit {0}

-- a streaming call of the Workload API; one that waits has no waiting message
abbrev pub stream_answer : ℕ → Method3 → List (List ℕ) → ViewModel → Bool → Answer → Phase → Turned
stream_answer n method sel v headed Denied p = has_ended (with_refusal n headed NoIdentity p)
stream_answer n method sel v headed Wait p = goes_on n (Ready (Stream method) sel (Some v) headed) (withdraws n p)
stream_answer n method sel v headed (TooLong size) p = has_ended (with_refusal n headed LongResponse p)
stream_answer n method sel v headed (Message m) p = goes_on n (Ready (Stream method) sel (Some v) true) (with_message n headed m p)

-- the state of a service for a caller with this view
abbrev pub health_of : List ℕ → ViewModel → ℕ
health_of service v = state_of service (length v.held == 0) (is_whole v)

abbrev pub check_answer : ℕ → Bool → ℕ → Phase → Turned
check_answer n headed state p = if state == 3 then has_ended (with_refusal n headed UnknownService p) else has_ended (with_last_message n headed (spell_state state) p)

abbrev pub watch_answer : ℕ → List ℕ → List (List ℕ) → ViewModel → Bool → Phase → Turned
watch_answer n service sel v headed p = goes_on n (Ready (Watch service) sel (Some v) true) (with_message n headed (spell_state (health_of service v)) p)

-- an ask for a token, of a call on this stream
abbrev pub ask_on : ℕ → List (List ℕ) → Wanted → JwtAsk
ask_on n audience w = record { stream = n; ask = w.ask; audience = audience; hint = w.hint }

-- a FetchJWTSVID call asks for its tokens, the first one now
abbrev pub token_answer : ℕ → Bool → List (List ℕ) → List Wanted → Phase → Turned
token_answer n headed audience [] p = has_ended (with_refusal n headed NoIdentity p)
token_answer n headed audience (w ∷ ws) p = goes_on n (Asking (ask_on n audience w) ws []) p

-- a ready call is answered on a view
unfoldable pub call_answer : ℕ → CallKind → List (List ℕ) → Bool → ViewModel → Phase → Turned
call_answer n (Stream method) sel headed v p = stream_answer n method sel v headed (answer_of method v) p
call_answer n (Tokens audience id) sel headed v p = token_answer n headed audience (asks_of id v) p
call_answer n (Check service) sel headed v p = check_answer n headed (health_of service v) p
call_answer n (Watch service) sel headed v p = watch_answer n service sel v headed p

-- ---- a turn

-- a call is answered where its view is another than the one that answered it last
abbrev pub answer_where_new : ℕ → CallKind → List (List ℕ) → Option ViewModel → Bool → ViewModel → Phase → Turned
answer_where_new n kind sel seen headed v p = if was_seen seen v then goes_on n (Ready kind sel seen headed) p else call_answer n kind sel headed v p

abbrev pub stage_turn : Publication → ℕ → Stage → Phase → Turned
stage_turn x n (Unnamed kind) p = goes_on n (Unnamed kind) p
stage_turn x n (Ready kind sel seen headed) p = answer_where_new n kind sel seen headed (view_in x sel) p
stage_turn x n (Asking first rest got) p = goes_on n (Asking first rest got) p

unfoldable pub call_turn : Publication → ServedCall → Phase → Turned
call_turn x c p = stage_turn x c.stream c.stage p

-- one, and then those after it
abbrev pub turn_before : Turned → (Phase → Turned) → Turned
turn_before first go_on =
    let rest = go_on first.phase in
    record { phase = rest.phase; kept = first.kept ++ rest.kept }

-- each ready call by ascending stream
unfoldable pub calls_turn : Publication → List ServedCall → Phase → Turned
calls_turn x [] p = has_ended p
calls_turn x (c ∷ cs) p = turn_before (call_turn x c p) (calls_turn x cs)
