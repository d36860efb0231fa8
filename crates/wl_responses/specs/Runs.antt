-- The moves of the session on a connection of the core, from the events alone, and its responses (own rules).
use Rattle.std.specs.Prelude.{◌≡◌, ◌⊎◌, ℕ, ◌<◌, ◌==◌, if◌then◌else◌, List, [], ◌∷◌, ◌++◌, Option, Some, None}
use Rattle.std.specs.List.{AllByRecursion}
use Rattle.wl_entry.specs.declared.tokens.JwtToken.{JwtToken}
use Rattle.jwt_cache.specs.declared.rings.CachedToken.{CachedToken}
use Rattle.workload_proto.specs.declared.limits.TheConstants.{MAX_RESPONSE_LEN}
use Rattle.wl_snapshot.specs.Snapshots.{Publication}
use Rattle.wl_session.specs.declared.asks.JwtAsk.{JwtAsk}
use Rattle.wl_session.specs.Sessions.{asks_in}
use Rattle.wl_core.specs.declared.events.TheConstants.{CONNS}
use Rattle.wl_core.specs.declared.events.Event.{Event}
use Rattle.wl_core.specs.declared.events.Event.TheVariants as events
use Rattle.wl_core.specs.declared.seats.Seat.{Seat}
use Rattle.wl_core.specs.Seats.{seat_at}
use Rattle.wl_core.specs.Tokens.{KeptTokens, tokens_of, kept_token, outcome_of}
use Rattle.wl_core.specs.Moments.{Beginning, Moment, moment, publication, seat}
use Rattle.wl_core.specs.Lines.{transcript}
use Rattle.wl_core.specs.Traces.{told_to}
use Rattle.wl_responses.specs.Responses.{IsAnswer, all_bytes, AllDiffer, IsCut, WasTaken, WasAttested, AllTurns, NeverFall, numbers_of}
use Rattle.wl_responses.specs.Moves.{Move, Fed, TurnedOn, GivenTo, session_after, bytes_after, steps_of, replies_in}

-- ---- the moves of a session

abbrev pub gain_moves : (Seat → List Move → List Move) → Option Seat → Option (List Move) → Option (List Move)
gain_moves more None moves = None
gain_moves more (Some s) None = None
gain_moves more (Some s) (Some moves) = Some (more s moves)

abbrev pub joined_moves : Option (List Move) → Option (List Move)
joined_moves None = Some []
joined_moves (Some moves) = Some moves

-- an ask that waits gets its outcome
abbrev pub with_outcome_for : KeptTokens → ℕ → Option JwtToken → Option JwtAsk → List Move → List Move
with_outcome_for kept now given None moves = moves
with_outcome_for kept now given (Some a) moves = GivenTo (outcome_of (kept_token kept a now) given now) ∷ moves

-- Bytes are fed with the present answer of the attestor; a turn reads the publication that stands.
abbrev pub moves_after : Event → ℕ → Moment → Option (List Move) → Option (List Move)
moves_after (events.Sync document) conn m moves = moves
moves_after (events.Claim now) conn m moves = moves
moves_after (events.Signed ticket signed now) conn m moves = moves
moves_after (events.Failed ticket) conn m moves = moves
moves_after (events.Join k selectors) conn m moves = if k == conn then joined_moves moves else moves
moves_after (events.Name k caller) conn m moves = moves
moves_after (events.Feed k piece) conn m moves = if k == conn then gain_moves (λ s before. Fed piece s.caller ∷ before) (seat_at m.seats conn) moves else moves
moves_after (events.Turn k) conn m moves = if k == conn then gain_moves (λ s before. TurnedOn m.stored.published ∷ before) (seat_at m.seats conn) moves else moves
moves_after (events.Token k now given) conn m moves = if k == conn then gain_moves (λ s before. with_outcome_for (tokens_of m.stored m.history) now given (asks_in s.session) before) (seat_at m.seats conn) moves else moves
moves_after (events.Close k) conn m moves = if k == conn then None else moves

-- of the session on a connection, if there is one
abbrev pub moves_of : Beginning → List Event → ℕ → Option (List Move)
moves_of d [] conn = None
moves_of d (e ∷ past) conn = moves_after e conn (moment d past) (moves_of d past conn)

-- the publication stood at a moment of the run
abbrev pub WasPublished : Beginning → List Event → Publication → Type 0
WasPublished d [] x = x ≡ publication d []
WasPublished d (e ∷ past) x = (x ≡ publication d (e ∷ past)) ⊎ WasPublished d past x

-- ---- laws

-- a session is the one after its moves, and was written their bytes
pub record HasMoves (d : Beginning) (past : List Event) (conn : ℕ) (s : Seat) : Type 0 where
  pub moves : List Move
  pub are : moves_of d past conn ≡ Some moves
  pub session : s.session ≡ session_after moves
  pub bytes : told_to conn (transcript d past) ≡ bytes_after moves

abbrev pub SessionsHaveMoves : Type 0
SessionsHaveMoves = (d : Beginning) (past : List Event) (conn : ℕ) (s : Seat) → conn < CONNS → seat d past conn ≡ Some s → HasMoves d past conn s

-- what holds of each stream n of each session of each run, by its moves
abbrev pub OnEachStream : (Beginning → List Event → ℕ → List Move → Type 0) → Type 0
OnEachStream P = (d : Beginning) (past : List Event) (conn n : ℕ) (moves : List Move) → conn < CONNS → moves_of d past conn ≡ Some moves → P d past n moves

-- with what is left of the last response, the bytes of DATA are the responses that began, in their order
abbrev pub BytesOfResponses : Type 0
BytesOfResponses = OnEachStream (λ d past n moves. (replies_in n moves).written ++ (replies_in n moves).left ≡ all_bytes (replies_in n moves).begun)

-- each is the answer on the view of the publication of the latest turn that answered the stream before it began
abbrev pub AnswersOfTurns : Type 0
AnswersOfTurns = OnEachStream (λ d past n moves. AllByRecursion IsAnswer (replies_in n moves).begun)

-- that turn was taken while the call was ready so
abbrev pub TurnsOfCalls : Type 0
TurnsOfCalls = OnEachStream (λ d past n moves. AllTurns (λ turn. WasTaken n turn (steps_of moves)) (replies_in n moves).begun)

-- with the selectors with which it was attested
abbrev pub SelectorsOfCalls : Type 0
SelectorsOfCalls = OnEachStream (λ d past n moves. AllTurns (λ turn. WasAttested n turn.selectors (steps_of moves)) (replies_in n moves).begun)

-- and its publication is one of the run
abbrev pub TurnsOfPublications : Type 0
TurnsOfPublications = OnEachStream (λ d past n moves. AllTurns (λ turn. WasPublished d past turn.publication) (replies_in n moves).begun)

-- their numbers do not fall
abbrev pub NumbersOfResponses : Type 0
NumbersOfResponses = OnEachStream (λ d past n moves. NeverFall (numbers_of (replies_in n moves).begun))

-- no two responses that follow each other are equal
abbrev pub ResponsesOfRunsDiffer : Type 0
ResponsesOfRunsDiffer = OnEachStream (λ d past n moves. AllDiffer (replies_in n moves).begun)

-- a reader of gRPC finds the first of their messages in the bytes of DATA, and no fault
abbrev pub MessagesOfRuns : Type 0
MessagesOfRuns = OnEachStream (λ d past n moves. IsCut MAX_RESPONSE_LEN (replies_in n moves))
