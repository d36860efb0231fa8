-- Each Turn of a session of the core answers all its ready calls, and each token brings a call to its next ask (own rules).
use Rattle.std.specs.Prelude.{◌≡◌, ◌⊎◌, ℕ, ◌<◌, Bool, List, [], ◌∷◌, ◌++◌, length, find, Option, Some, None}
use Rattle.std.specs.List.{AllByRecursion}
use Rattle.h2_flow.specs.declared.flow.Flow.{Flow}
use Rattle.h2_flow.specs.declared.stream.Stream.{Stream}
use Rattle.h2_flow.specs.Windows.{room_of, window_of}
use Rattle.h2_conn.specs.declared.phase.Phase.{Phase}
use Rattle.h2_conn.specs.declared.phase.Phase.TheVariants.{Open, Failed as Faulty, OutOfMemory as Exhausted}
use Rattle.h2_conn.specs.Conns.{flush_of}
use Rattle.workload_proto.specs.declared.message.JwtItem.{JwtItem}
use Rattle.wl_entry.specs.declared.tokens.JwtToken.{JwtToken}
use Rattle.wl_snapshot.specs.Snapshots.{Publication}
use Rattle.wl_snapshot.specs.Views.{ViewModel, view_in}
use Rattle.wl_snapshot.specs.Answers.{asks_of}
use Rattle.wl_snapshot.specs.declared.token_asks.Wanted.{Wanted}
use Rattle.wl_session.specs.declared.asks.JwtAsk.{JwtAsk}
use Rattle.wl_session.specs.declared.asks.JwtOutcome.{JwtOutcome}
use Rattle.wl_session.specs.declared.asks.JwtOutcome.TheVariants.{Token, Failed, Unfit}
use Rattle.wl_session.specs.declared.served.CallKind.TheVariants.{Tokens}
use Rattle.wl_session.specs.declared.served.Stage.{Stage}
use Rattle.wl_session.specs.declared.served.Stage.TheVariants.{Ready, Asking}
use Rattle.wl_session.specs.Answering.{ask_on}
use Rattle.wl_session.specs.Tokens.{is_asking, item_for}
use Rattle.wl_session.specs.Talks.{Talking}
use Rattle.wl_session.specs.Sessions.{SessionState, Running, Fallen, OutOfMemory, asks_in}
use Rattle.wl_session.specs.Completing.{AllAnswered}
use Rattle.wl_core.specs.declared.events.TheConstants.{CONNS}
use Rattle.wl_core.specs.declared.events.Event.{Event}
use Rattle.wl_core.specs.declared.events.Event.TheVariants as events
use Rattle.wl_core.specs.declared.seats.Seat.{Seat}
use Rattle.wl_core.specs.Tokens.{tokens_of, kept_token, outcome_of}
use Rattle.wl_core.specs.Moments.{Beginning, moment, publication, seat}
use Rattle.wl_responses.specs.Replies.{stage_on}
use Rattle.wl_responses.specs.Statuses.{HasTurnEnding, HasTokenEnding, AllGiveStatuses}
use Rattle.wl_responses.specs.Moves.{Move, steps_of}
use Rattle.wl_responses.specs.Runs.{moves_of}

-- ---- the calls of a session

-- what is said of the talk of a session that goes on
abbrev pub OnTalk : (Talking → Type 0) → SessionState → Type 0
OnTalk P (Running e t shown) = P t
OnTalk P (Fallen fault begun) = Unit {0}
OnTalk P OutOfMemory = Unit {0}

-- how far the call on a stream is
abbrev pub stage_in : ℕ → SessionState → Option Stage
stage_in n (Running e t shown) = stage_on n t.served
stage_in n (Fallen fault begun) = None
stage_in n OutOfMemory = None

-- whatever may be written was
abbrev pub IsWritten : Talking → Type 0
IsWritten t = flush_of t.phase ≡ record { bytes = []; after = t.phase }

-- A message that waits on a stream waits after bytes of an older one, or for a window: no window lets anything through whose
-- sum is not above zero (RFC 9113, section 6.9).
abbrev pub IsHeldBack : Flow → Stream → Type 0
IsHeldBack f s =
    (m : List ℕ) → s.waiting ≡ Some m → 0 < length m → (s.sent < length s.last) ⊎ ((f.connection_window ≡ 0) ⊎ (room_of (window_of f.initial_window_size s.credit) ≡ 0))

abbrev pub HoldsBack : Phase → Type 0
HoldsBack (Open q) = AllByRecursion (IsHeldBack q.outbox.flow) q.outbox.streams
HoldsBack (Faulty fault left totals) = Unit {0}
HoldsBack (Exhausted totals) = Unit {0}

abbrev pub IsKeptBack : Talking → Type 0
IsKeptBack t = HoldsBack t.phase

-- a FetchJWTSVID call waits for the first of its asks, and then for the others; where it has none it has ended
abbrev pub waits_for : ℕ → List (List ℕ) → List Wanted → List JwtItem → Option Stage
waits_for n audience [] got = None
waits_for n audience (w ∷ ws) got = Some (Asking (ask_on n audience w) ws got)

-- how far it is from the outcome of its first ask: where that isn't a token it has ended
abbrev pub waits_after : JwtOutcome → ℕ → JwtAsk → List Wanted → List JwtItem → Option Stage
waits_after (Token t) n first rest got = waits_for n first.audience rest (got ++ item_for first t ∷ [])
waits_after Failed n first rest got = None
waits_after (Unfit why) n first rest got = None

-- ---- an event of a session

-- what holds after each Turn of a session in each run: of the publication that stands, and the session before and now
abbrev pub BehindTurns : (Publication → SessionState → SessionState → Type 0) → Type 0
BehindTurns P =
    (d : Beginning) (past : List Event) (conn : ℕ) (old now : Seat) → conn < CONNS → seat d past conn ≡ Some old → seat d (events.Turn conn ∷ past) conn ≡ Some now
    → P (publication d past) old.session now.session

-- after each Token, where an ask waits: of its outcome, and the session before and now
abbrev pub BehindTokens : (JwtOutcome → SessionState → SessionState → Type 0) → Type 0
BehindTokens P =
    (d : Beginning) (past : List Event) (conn time : ℕ) (given : Option JwtToken) (a : JwtAsk) (old now : Seat)
    → conn < CONNS → seat d past conn ≡ Some old → asks_in old.session ≡ Some a → seat d (events.Token conn time given ∷ past) conn ≡ Some now
    → P (outcome_of (kept_token (tokens_of (moment d past).stored (moment d past).history) a time) given time) old.session now.session

-- ---- laws

-- each ready streaming call, Watch included, has its message of that publication begun last or waiting
abbrev pub EachIsAnswered : Type 0
EachIsAnswered = BehindTurns (λ x old now. AllAnswered x now)

abbrev pub AllIsWritten : Type 0
AllIsWritten = BehindTurns (λ x old now. OnTalk IsWritten now)

-- one that waits cannot begin
abbrev pub EachIsHeldBack : Type 0
EachIsHeldBack = BehindTurns (λ x old now. OnTalk IsKeptBack now)

-- each ready FetchJWTSVID waits for exactly the asks of its view
abbrev pub WaitsForAsks : Publication → SessionState → SessionState → Type 0
WaitsForAsks x old now =
    (n : ℕ) (audience : List (List ℕ)) (id : Option (List ℕ)) (sel : List (List ℕ)) (seen : Option ViewModel) (headed : Bool)
    → stage_in n old ≡ Some (Ready (Tokens audience id) sel seen headed) → stage_in n now ≡ waits_for n audience (asks_of id (view_in x sel)) []

abbrev pub AsksAreAwaited : Type 0
AsksAreAwaited = BehindTurns WaitsForAsks

-- a call that waits for tokens goes on waiting for the same ones
abbrev pub StillWaits : SessionState → SessionState → Type 0
StillWaits old now = (n : ℕ) (first : JwtAsk) (rest : List Wanted) (got : List JwtItem) → stage_in n old ≡ Some (Asking first rest got) → stage_in n now ≡ Some (Asking first rest got)

abbrev pub AsksStay : Type 0
AsksStay = BehindTurns (λ x old now. StillWaits old now)

-- with a fit token the first call that waits goes to its next ask, and after the last one it ends; without one it ends
abbrev pub TakesOutcome : JwtOutcome → SessionState → SessionState → Type 0
TakesOutcome o old now =
    OnTalk
    (λ (t : Talking).
    (n : ℕ) (first : JwtAsk) (rest : List Wanted) (got : List JwtItem) → find is_asking t.served ≡ Some (record { stream = n; stage = Asking first rest got }) → stage_in n now ≡ waits_after o n first rest got)
    old

abbrev pub OutcomesAreTaken : Type 0
OutcomesAreTaken = BehindTokens TakesOutcome

-- each ready call is given its status, by the view of that publication
abbrev pub TurnsOfRunsGiveStatuses : Type 0
TurnsOfRunsGiveStatuses = BehindTurns (λ x old now. OnTalk (HasTurnEnding x) old)

-- the first call that waits is given its status, by the outcome
abbrev pub TokensOfRunsGiveStatuses : Type 0
TokensOfRunsGiveStatuses = BehindTokens (λ o old now. OnTalk (HasTokenEnding o) old)

-- each step of each session gives its statuses: by verdicts, names, turns and outcomes
abbrev pub StepsOfRunsGiveStatuses : Type 0
StepsOfRunsGiveStatuses = (d : Beginning) (past : List Event) (conn : ℕ) (moves : List Move) → conn < CONNS → moves_of d past conn ≡ Some moves → AllGiveStatuses (steps_of moves)
